-- The closed objects of a register: their places, items and hulls.
use Rattle.std.proofs.Common.{◌≡◌, ℕ, ◌<◌, ◌≤◌, true, false, ◌&&◌, ltb, [], length, get_or, ℤ, pos, negsuc, nat_abs, sym, refl, ap, ◌∙◌, subst, arith}
use Rattle.std.proofs.lemmas.Bool.{lt-ltb, le-ltb, ltb-true, false≢true}
use Rattle.hull.specs.declared.kind.Hull as hull
use Rattle.book.specs.declared.ledger.Span.{Span}
use Rattle.book.specs.Limits.{place_limit}
use Rattle.book.specs.Books.{closed, object, counts}
use Rattle.book.specs.Pages.{complete}
use Rattle.book.specs.Ledgers.{slice, book_over}
use Rattle.book.specs.Hulls.{GrownPage}
use Rattle.book.proofs.Slices.{object_at, object_over_at, length_slice, slice_short}
use Rattle.book.proofs.LedgerLaws.{count_objects}
use Rattle.book.proofs.Wholes.{all_complete_at, some_item}
use Rattle.register.specs.declared.register.Register.{Register}
use Rattle.register.specs.Tables.{items_of, hulls_of}
use Rattle.register.specs.Registers.{book_of}
use Rattle.register.specs.Comparing.{places_of}
use Rattle.register.proofs.Fields.{sound, table_of, items_slice, hulls_slice}

module _ {H : Type 0} {kind : hull.Ghosts H} (r : Register H kind) where
  count : length (book_of r).objects ≡ r.ledger.closed
  unfolding book_of
  count = count_objects _ _ _ _ _ (sound r)

  pub closed_no : (n : ℤ) → ((k : ℕ) → n ≡ pos k → r.ledger.closed ≤ k) → closed (book_of r) n ≡ false
  unfolding closed
  closed_no (pos m) h = le-ltb m (length (book_of r).objects) (omega (arith, count, h m refl))
  closed_no (negsuc m) h = refl

  pub closed_yes : (n : ℤ) (k : ℕ) → n ≡ pos k → k < r.ledger.closed → closed (book_of r) n ≡ true
  unfolding closed
  closed_yes n k e l = subst (λ (z : ℤ). (counts z && ltb (nat_abs z) (length (book_of r).objects)) ≡ true) (sym e) (lt-ltb k (length (book_of r).objects) (omega (arith, count)))

  -- the object at a place of the list
  module _ (k : ℕ) (l : k < r.ledger.closed) where
    abbrev span_of : Span → Span
    span_of d = get_or r.ledger.spans k d

    pub places_at : (d : Span) → places_of r (pos k) ≡ slice (span_of d).from (span_of d).to (table_of r)
    unfolding places_of
    places_at d = object_over_at r.ledger.closed r.ledger.spans (table_of r) k d [] l (omega (arith, r.counted.0, r.counted.1))

    items_at : (d : Span) → object (book_of r) (pos k) ≡ slice (span_of d).from (span_of d).to (items_of (table_of r))
    unfolding book_of book_over
    items_at d = object_at r.ledger.closed r.ledger.spans (items_of (table_of r)) k d [] l (omega (arith, r.counted.0, r.counted.1))

    whole : complete (object (book_of r) (pos k)) ≡ true
    unfolding book_of book_over
    whole = all_complete_at (book_of r).objects k [] r.kept.2 (omega (arith, count))

    object_items : items_of (places_of r (pos k)) ≡ object (book_of r) (pos k)
    object_items = let d : Span = record { from = 0; to = 0 } in ap items_of (places_at d) ∙ (items_slice (table_of r) (span_of d).from (span_of d).to ∙ sym (items_at d))

    -- its span
    pub ends : (d : Span) → ((span_of d).from ≤ (span_of d).to) × ((span_of d).to ≤ r.ledger.base)
    ends d =
        let s = subst (λ z. 0 < length z) (items_at d) (some_item _ whole) in
        (slice_short (items_of (table_of r)) (span_of d).from (span_of d).to s, r.kept.0 k d l)

    few_places : length (places_of r (pos k)) ≤ place_limit
    few_places =
        let d : Span = record { from = 0; to = 0 } in
        omega (arith, ap length (places_at d), length_slice (table_of r) (span_of d).from (span_of d).to (omega (arith, (ends d).1, r.placed)), (ends d).1, r.placed, r.alone.0)

    grown_object : GrownPage kind.begun kind.grown (object (book_of r) (pos k)) (hulls_of (places_of r (pos k)))
    grown_object =
        let d : Span = record { from = 0; to = 0 } in
        rw (items_at d, ap hulls_of (places_at d) ∙ hulls_slice (table_of r) (span_of d).from (span_of d).to) (r.grown.object k d l)

  -- the same of the object with a given number
  pub record Shelved (n : ℤ) : Type 0 where
    pub whole : complete (object (book_of r) n) ≡ true
    pub object_items : items_of (places_of r n) ≡ object (book_of r) n
    pub few : length (places_of r n) ≤ place_limit
    pub grown : GrownPage kind.begun kind.grown (object (book_of r) n) (hulls_of (places_of r n))

  pub shelved : (n : ℤ) → closed (book_of r) n ≡ true → Shelved n
  unfolding closed
  shelved (pos k) y =
      let l : k < r.ledger.closed = omega (arith, ltb-true k (length (book_of r).objects) y, count) in
      record { whole = whole k l; object_items = object_items k l; few = few_places k l; grown = grown_object k l }
  shelved (negsuc k) y = absurd (false≢true y)
