-- Sums over a list of weights.
use Rattle.std.proofs.Common.{◌≡◌, ℕ, ◌+◌, Bool, true, false, cond, leb, List, [], ◌∷◌, ℤ, pos, ◌+ℤ◌, ◌*ℤ◌, ◌≤ℤ◌, refl, ap, ◌∙◌, arith}
use borrow.Author.Differences.{ints}
use lib.IntN.{*ℤ-zero}
use lib.Signed.{≤ℤ_refl}
use Rattle.std.specs.List.{AllByRecursion}
use Rattle.integers.proofs.Order.{add_le_add}
use Rattle.integers.proofs.Laws.{mul_add, add_left_comm}
use Rattle.hull.specs.declared.face.Weight.{Weight}
use Rattle.hull.specs.Weights.{insert, sorted, total}
use Rattle.support.specs.Supports.{sum_of}

module _ {X : Type 0} where
  pub sum_mono : (a b : X → ℤ) (xs : List X) → AllByRecursion (λ x. a x ≤ℤ b x) xs → sum_of a xs ≤ℤ sum_of b xs
  sum_mono a b [] h = ≤ℤ_refl (pos 0)
  sum_mono a b (x ∷ xs) h = add_le_add (a x) (b x) (sum_of a xs) (sum_of b xs) h.0 (sum_mono a b xs h.1)

  pub sum_le : (a b : X → ℤ) (k : X → ℕ) (xs : List X) → AllByRecursion (λ x. a x ≤ℤ (b x +ℤ pos (k x))) xs → sum_of a xs ≤ℤ (sum_of b xs +ℤ pos (total k xs))
  sum_le a b k [] h = omega (arith, ints)
  sum_le a b k (x ∷ xs) h = add (a x) (b x) (sum_of a xs) (sum_of b xs) (k x) (total k xs) h.0 (sum_le a b k xs h.1)
    where
      add : (a b s t : ℤ) (m n : ℕ) → a ≤ℤ (b +ℤ pos m) → s ≤ℤ (t +ℤ pos n) → (a +ℤ s) ≤ℤ (b +ℤ t +ℤ pos (m + n))
      add a b s t m n h l = omega (arith, ints)

  pub sum_scaled : (k : ℤ) (e : X → ℤ) (xs : List X) → k *ℤ sum_of e xs ≡ sum_of (λ x. k *ℤ e x) xs
  sum_scaled k e [] = *ℤ-zero k
  sum_scaled k e (x ∷ xs) = mul_add k (e x) (sum_of e xs) ∙ ap (λ (s : ℤ). k *ℤ e x +ℤ s) (sum_scaled k e xs)

-- sorting keeps a sum
sum_insert : (e : Weight → ℤ) (w : Weight) (ws : List Weight) → sum_of e (insert w ws) ≡ e w +ℤ sum_of e ws
sum_insert e w [] = refl
sum_insert e w (v ∷ vs) = by (leb v.amount w.amount) (sum_insert e w vs)
  where
    by : (t : Bool) → sum_of e (insert w vs) ≡ e w +ℤ sum_of e vs → sum_of e (cond t (w ∷ v ∷ vs) (v ∷ insert w vs)) ≡ e w +ℤ (e v +ℤ sum_of e vs)
    by true r = refl
    by false r = ap (λ (s : ℤ). e v +ℤ s) r ∙ add_left_comm (e v) (e w) (sum_of e vs)

pub sum_sorted : (e : Weight → ℤ) (ws : List Weight) → sum_of e (sorted ws) ≡ sum_of e ws
sum_sorted e [] = refl
sum_sorted e (w ∷ ws) = sum_insert e w (sorted ws) ∙ ap (λ (s : ℤ). e w +ℤ s) (sum_sorted e ws)
