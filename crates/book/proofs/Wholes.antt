-- What every closed object keeps to.
use Rattle.std.proofs.Common.{◌≡◌, ℕ, zero, suc, ◌+◌, ◌-◌, ◌<◌, ◌≤◌, true, false, eqb, List, [], ◌∷◌, ◌++◌, length, get_or, refl, subst, ⊎_elim, arith}
use Rattle.std.proofs.lemmas.Bool.{cases_eq, cases_Bool, and_from, and_parts, eq-eqb, eqb-true}
use Rattle.book.specs.declared.item.Item.{Item}
use Rattle.book.specs.Trees.{tied, untied, height_at, Part, Under, itself, above, Whole}
use Rattle.book.specs.Pages.{sane, complete, all_complete}
use Rattle.book.proofs.Forest.{low_at}
use Rattle.book.proofs.Flags.{tied_part, part_at, part_once, untied_two, untied_le}

-- what lies under a part's tie has the part under it
beneath : (p : List Item) (i j k : ℕ) → Part p i j → Under p j k → Under p i k
beneath p i j k q itself = above itself q
beneath p i j k q (above u r) = above (beneath p i j _ q u) r

module _ (p : List Item) (good : sane p ≡ true) (one : untied p ≡ 1) where
  last_free : tied p (length p - 1) ≡ false
  last_free = ⊎_elim
      (λ (t : tied p (length p - 1) ≡ true). let q = tied_part p (length p - 1) t in absurd (omega (arith, (part_at p good (length p - 1) q.0 q.1).0, q.1.there)))
      (λ e. e)
      (cases_Bool (tied p (length p - 1)))

  others_tied : (i : ℕ) → i < length p → (i ≡ length p - 1 → ⊥) → tied p i ≡ true
  others_tied i h ne = ⊎_elim
      (λ e. e)
      (λ (f : tied p i ≡ false). absurd (omega (arith, untied_two p i (length p - 1) (record { differ = ne; x_in = h; y_in = omega arith; x_free = f; y_free = last_free }))))
      (cases_Bool (tied p i))

  climbs : (fuel i : ℕ) → i < length p → length p ≤ i + fuel → Under p i (length p - 1)
  climbs zero i h l = absurd (omega arith)
  climbs (suc fuel) i h l = ⊎_elim
      (λ (e : i ≡ length p - 1). subst (λ k. Under p i k) e itself)
      (λ (ne : i ≡ length p - 1 → ⊥).
      let q = tied_part p i (others_tied i h ne) in
      let b = part_at p good i q.0 q.1 in
      beneath p i q.0 (length p - 1) q.1 (climbs fuel q.0 q.1.there (omega (arith, b.0))))
      (cases_eq i (length p - 1))

pub complete_from : (p : List Item) → sane p ≡ true → untied p ≡ 1 → complete p ≡ true
unfolding complete
complete_from p g u = and_from _ _ g (eq-eqb (untied p) 1 u)

pub complete_parts : (p : List Item) → complete p ≡ true → (sane p ≡ true) × (untied p ≡ 1)
unfolding complete
complete_parts p c = let q = and_parts (sane p) (eqb (untied p) 1) c in (q.0, eqb-true (untied p) 1 q.1)

pub some_item : (p : List Item) → complete p ≡ true → 0 < length p
some_item p c = omega (arith, (complete_parts p c).1, untied_le p)

pub whole_from : (p : List Item) → complete p ≡ true → Whole p
unfolding height_at
whole_from p c =
    let q = complete_parts p c in
    record {
      under = λ i h. climbs p q.0 q.1 (length p) i h (omega arith);
      once = part_once p q.0;
      low = λ i h. low_at p i h q.0;
    }

pub all_complete_push : (os : List (List Item)) (o : List Item) → all_complete os ≡ true → complete o ≡ true → all_complete (os ++ o ∷ []) ≡ true
unfolding all_complete
all_complete_push [] o h c = and_from _ _ c refl
all_complete_push (a ∷ os) o h c = let q = and_parts (complete a) (all_complete os) h in and_from _ _ q.0 (all_complete_push os o q.1 c)

pub all_complete_at : (os : List (List Item)) (k : ℕ) (d : List Item) → all_complete os ≡ true → k < length os → complete (get_or os k d) ≡ true
unfolding all_complete
all_complete_at [] k d h l = absurd (omega arith)
all_complete_at (o ∷ os) zero d h l = (and_parts (complete o) (all_complete os) h).0
all_complete_at (o ∷ os) (suc k) d h l = all_complete_at os k d (and_parts (complete o) (all_complete os) h).1 (omega arith)
