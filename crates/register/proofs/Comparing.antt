-- From the walk over the stored hulls to what the list of a comparison says.
use Rattle.std.proofs.Common.{◌≡◌, ℕ, true, List, length, ℤ, Result, sym, ap, ◌∙◌, subst₂}
use Rattle.std.proofs.lemmas.Bool.{and_parts}
use Rattle.hull.specs.declared.kind.Hull as hull
use Rattle.placement.specs.declared.parts.Placement.{Placement}
use Rattle.placement.specs.Twelve.{entries}
use Rattle.book.specs.declared.call.Answer.{Answer}
use Rattle.book.specs.declared.call.Comparison.{Comparison}
use Rattle.book.specs.declared.refusal.Refusal.{Refusal}
use Rattle.book.specs.declared.item.Item.{Item}
use Rattle.book.specs.Books.{Book, closed, object}
use Rattle.walks.specs.Walks.{Walk}
use Rattle.walks.specs.Stored.{PartedStored}
use Rattle.walks.specs.Comparisons.{root, Listing}
use Rattle.walks.specs.Answers.{both_closed, WalkedInto, all, first, Answers, no_place, listed}
use Rattle.walks.proofs.Answered.{answers_as}
use Rattle.walks.proofs.Listing.{Laws, stored_listing}
use Rattle.register.specs.declared.register.Register.{Register}
use Rattle.register.specs.Tables.{hulls_of}
use Rattle.register.specs.Registers.{book_of}
use Rattle.register.specs.Comparing.{places_of, WalkStored, comparison, compared}
use Rattle.register.proofs.Fields.{length_items, length_hulls}
use Rattle.register.proofs.Shelf.{Shelved, shelved}

-- what the walk answers is what the comparison answers
pub walk_answers : {b : Book} {c : Comparison} {Walks : Placement → List (ℕ × ℕ) → ℕ → Type 0} {before after : List (ℕ × ℕ)} (p : Placement) (r : Result (ℕ × ℕ) Refusal) → both_closed b c ≡ true → entries p ≡ c.placement → WalkedInto (Walks p) before after r → Answers b c Walks before after (compared r)
walk_answers p r y e (all w h) = listed y e w h
walk_answers p r y e (first w h) = no_place y e w h

module _ {H : Type 0} {kind : hull.Ghosts H} (laws : Laws kind.begun kind.grown kind.reaches kind.fits kind.faced kind.unrounded) (r : Register H kind) (m s : ℤ) where
  long : (n : ℤ) → Shelved r n → length (hulls_of (places_of r n)) ≡ length (object (book_of r) n)
  long n f = length_hulls (places_of r n) ∙ (sym (length_items (places_of r n)) ∙ ap length f.object_items)

  lists : Shelved r m → Shelved r s → (p : Placement) (pairs : List (ℕ × ℕ)) (tests : ℕ) → WalkStored kind.reaches (places_of r m) (places_of r s) p pairs tests → Listing kind.begun kind.grown kind.reaches kind.faced kind.unrounded (object (book_of r) m) (object (book_of r) s) p pairs tests
  lists a b p pairs tests w =
      stored_listing laws (object (book_of r) m) (object (book_of r) s) a.whole b.whole p (hulls_of (places_of r m)) (hulls_of (places_of r s)) (long m a) (long s b) a.grown b.grown
      (subst₂ (λ (o q : List Item). Walk (PartedStored kind.reaches (hulls_of (places_of r m)) (hulls_of (places_of r s)) p) (root o) (root q) pairs tests) a.object_items b.object_items w)

  pub grown_answers : (n : List ℤ) {before after : List (ℕ × ℕ)} {a : Answer} → Answers (book_of r) (comparison m s n) (WalkStored kind.reaches (places_of r m) (places_of r s)) before after a
      → Answers (book_of r) (comparison m s n) (Listing kind.begun kind.grown kind.reaches kind.faced kind.unrounded (object (book_of r) m) (object (book_of r) s)) before after a
  grown_answers n = answers_as (λ y. let q = and_parts (closed (book_of r) m) (closed (book_of r) s) y in lists (shelved r m q.0) (shelved r s q.1))
