-- The nine numbers of a facet, one by one.
use Rattle.std.proofs.Common.{◌≡◌, ℕ, zero, suc, ◌+◌, ◌≤◌, true, false, List, [], ◌∷◌, length, drop, ℤ, pos, nat_abs, Option, Some, None, MatchOption, sym, refl, ap, ◌∙◌, subst, ap₂, arith}
use Rattle.std.proofs.lemmas.List.{drop_all, drop_more}
use Rattle.std.proofs.lemmas.Bool.{and_from, and_parts, le-leb, cond-true}
use Rattle.hull.specs.Units.{corner_limit}
use Rattle.book.specs.declared.item.Facet.{Facet}
use Rattle.book.specs.Facets.{corner, corner_from, entry, facet_of, fits, fits_at, nth, within}
use Rattle.touch.specs.Facets.{InRange, entries}

-- the m elements from place i on
abbrev spelled : ℕ → ℕ → List ℤ → List ℤ
spelled zero i n = []
spelled (suc m) i n = nth n i ∷ spelled m (i + 1) n

spelled_is : (m i : ℕ) (n : List ℤ) → length n ≡ i + m → spelled m i n ≡ drop i n
spelled_is zero i n e = sym (drop_all i n (omega arith))
spelled_is (suc m) i n e =
    ap (λ (t : List ℤ). nth n i ∷ t) (spelled_is m (i + 1) n (omega arith)) ∙ sym (drop_more n i (pos 0) (omega arith))

nine : (n : List ℤ) → length n ≡ 9 → spelled 9 0 n ≡ n
nine n e = spelled_is 9 0 n e

-- three numbers of a list that are in range may be the entries of a corner
fit : (n : List ℤ) (k : ℕ) → nat_abs (nth n k) ≤ corner_limit → nat_abs (nth n (k + 1)) ≤ corner_limit → nat_abs (nth n (k + 2)) ≤ corner_limit → fits_at n k ≡ true
unfolding fits_at
fit n k x y z = and_from _ _ (le-leb _ _ x) (and_from _ _ (le-leb _ _ y) (le-leb _ _ z))

in_range : (n : List ℤ) → length n ≡ 9 → InRange n → within n ≡ true
unfolding InRange within
in_range n e h =
    let a = subst InRange (sym (nine n e)) h in
    let b = a.1.1.1 in
    let c = b.1.1.1 in and_from _ _ (fit n 0 a.0 a.1.0 a.1.1.0) (and_from _ _ (fit n 3 b.0 b.1.0 b.1.1.0) (fit n 6 c.0 c.1.0 c.1.1.0))

-- such numbers are the entries of the corner that is made of them
row : (n : List ℤ) (k : ℕ) {xs ys : List ℤ} → fits_at n k ≡ true → xs ≡ ys → entry (nth n k) ∷ entry (nth n (k + 1)) ∷ entry (nth n (k + 2)) ∷ xs ≡ nth n k ∷ nth n (k + 1) ∷ nth n (k + 2) ∷ ys
unfolding entry fits_at
row n k h t =
    let p = and_parts (fits (nth n k)) _ h in
    let q = and_parts (fits (nth n (k + 1))) (fits (nth n (k + 2))) p.1 in
    ap₂ ◌∷◌ (cond-true _ _ _ p.0) (ap₂ ◌∷◌ (cond-true _ _ _ q.0) (ap₂ ◌∷◌ (cond-true _ _ _ q.1) t))

entries_are : (n : List ℤ) → length n ≡ 9 → within n ≡ true → entries (facet_of n) ≡ n
unfolding within facet_of corner_from corner
entries_are n e h =
    let p = and_parts (fits_at n 0) _ h in
    let q = and_parts (fits_at n 3) (fits_at n 6) p.1 in
    row n 0 p.0 (row n 3 q.0 (row n 6 q.1 refl)) ∙ nine n e

-- what book tells of a facet that nine numbers make, told of their list
pub made : (n : List ℤ) (o : Option Facet) → length n ≡ 9 → MatchOption o (within n ≡ false) (λ f. (within n ≡ true) × (f ≡ facet_of n)) → MatchOption o (InRange n → ⊥) (λ f. entries f ≡ n)
made n None e h = λ r. let t = in_range n e r in cc
made n (Some f) e h = ap entries h.1 ∙ entries_are n e h.0
