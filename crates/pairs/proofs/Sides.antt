-- One side of an axis: the moved hull above the standing one, or with the two exchanged and the shift reversed, below it.
use Rattle.std.proofs.Common.{◌≡◌, ℕ, ◌+◌, ◌*◌, ◌<◌, List, [], ◌∷◌, ℤ, pos, ◌+ℤ◌, ◌-ℤ◌, ◌*ℤ◌, neg_ℤ, ◌≤ℤ◌, ◌<ℤ◌, refl, subst, mul-le-mul, arith}
use borrow.Author.Differences.{ints}
use Rattle.std.specs.List.{ContainsAt as Has, AllByRecursion}
use Rattle.std.proofs.ByRecursion.{all-has}
use Rattle.integers.proofs.Ring.{Expr, var, ◌⊕◌, ◌⊖◌, ◌⊗◌, #}
use Rattle.integers.proofs.Certificates.{le_by, gap, nat, ◌⊞◌, ◌⊠◌}
use Rattle.hull.specs.declared.corner.Corner.{Corner}
use Rattle.hull.specs.declared.direction.Direction.{Direction}
use Rattle.hull.specs.Measures.{along, size, Covers, Tight, Rounds}
use Rattle.hull.specs.Units.{reach_unit, slack, rounding}
use Rattle.pairs.specs.Products.{dot}
use Rattle.pairs.specs.Directions.{opposite}
use Rattle.pairs.proofs.Identities.{dots, opposite_along, opposite_size}

-- ---- over bare numbers: products m and n, reaches a and b, unrounded reaches c and d, and a shift t that is t' in finer units
abbrev unit : ℤ → ℤ
unit z = pos reach_unit *ℤ z

over_by : (m n t t' a b : ℤ) → t' ≡ unit t → neg_ℤ m ≤ℤ unit a → n ≤ℤ unit b → pos 0 <ℤ (neg_ℤ a +ℤ t -ℤ b) → (n +ℤ pos 1) ≤ℤ (m +ℤ t')
over_by m n t t' a b e h k l = omega (arith, ints)

under_by : (m n t t' a b : ℤ) (d e : ℕ) → t' ≡ unit t → unit a ≤ℤ (neg_ℤ m +ℤ pos d) → unit b ≤ℤ (n +ℤ pos e) → (neg_ℤ a +ℤ t -ℤ b) ≤ℤ pos 0 → (m +ℤ t') ≤ℤ (n +ℤ pos (d + e))
under_by m n t t' a b d e r h k l = omega (arith, ints)

exact_over_by : (t t' a b c d : ℤ) → t' ≡ unit t → c ≤ℤ unit a → d ≤ℤ unit b → pos 0 <ℤ (neg_ℤ a +ℤ t -ℤ b) → pos 0 <ℤ (neg_ℤ c +ℤ t' -ℤ d)
exact_over_by t t' a b c d e h k l = omega (arith, ints)

exact_under_by : (t t' a b c d : ℤ) (m n : ℕ) → t' ≡ unit t → unit a ≤ℤ (c +ℤ pos m) → unit b ≤ℤ (d +ℤ pos n) → (neg_ℤ a +ℤ t -ℤ b) ≤ℤ pos 0 → (neg_ℤ c +ℤ t' -ℤ d) ≤ℤ pos (m + n)
exact_under_by t t' a b c d m n e h k l = omega (arith, ints)

-- ---- a hull by its reaches f, over a list c
-- by how much a reach may pass the product with a corner, and with the unrounded reach
abbrev pub loose : Direction → ℕ → ℕ
loose u s = 3 * (size u * (s + 8)) + slack

abbrev pub rough : Direction → ℕ
rough u = 3 * size u + rounding

module _ (f : Direction → ℤ) (c : List Corner) (v : Corner) (h : Has c v) (u : Direction) where
  covered : Covers (f u) u c → along u v ≤ℤ unit (f u)
  covered b = all-has (λ w. along u w ≤ℤ unit (f u)) c v b h

  covered_back : Covers (f (opposite u)) (opposite u) c → neg_ℤ (along u v) ≤ℤ unit (f (opposite u))
  covered_back b =
      subst (λ (z : ℤ). z ≤ℤ unit (f (opposite u))) (opposite_along u v) (all-has (λ w. along (opposite u) w ≤ℤ unit (f (opposite u))) c v b h)

  hugged : (s : ℕ) → Tight (f u) u s c → unit (f u) ≤ℤ (along u v +ℤ pos (loose u s))
  hugged s b = all-has (λ w. unit (f u) ≤ℤ (along u w +ℤ pos (loose u s))) c v b h

  hugged_back : (s : ℕ) → Tight (f (opposite u)) (opposite u) s c → unit (f (opposite u)) ≤ℤ (neg_ℤ (along u v) +ℤ pos (loose u s))
  hugged_back s b =
      subst (λ (z : ℤ). unit (f (opposite u)) ≤ℤ (z +ℤ pos (loose u s))) (opposite_along u v)
      (subst (λ (n : ℕ). unit (f (opposite u)) ≤ℤ (along (opposite u) v +ℤ pos (3 * (n * (s + 8)) + slack))) (opposite_size u)
      (all-has (λ w. unit (f (opposite u)) ≤ℤ (along (opposite u) w +ℤ pos (loose (opposite u) s))) c v b h))

-- ---- the upper hull by its reaches f, along u, and the lower one by g, along w
-- the room between them
abbrev pub room : (Direction → ℤ) → (Direction → ℤ) → Direction → Direction → ℤ → ℤ
room f g u w t = neg_ℤ (f (opposite u)) +ℤ t -ℤ g w

module _ (f g : Direction → ℤ) (u w : Direction) (t t' : ℤ) (k : t' ≡ pos reach_unit *ℤ t) where
  -- over lists c and d
  module _ (c d : List Corner) (v x : Corner) (hv : Has c v) (hx : Has d x) where
    pub over : ((u : Direction) → Covers (f u) u c) → ((u : Direction) → Covers (g u) u d) → pos 0 <ℤ room f g u w t → (along w x +ℤ pos 1) ≤ℤ (along u v +ℤ t')
    over bf bg l =
        over_by (along u v) (along w x) t t' (f (opposite u)) (g w) k (covered_back f c v hv u (bf (opposite u))) (covered g d x hx w (bg w)) l

    pub under : (s r : ℕ) → ((u : Direction) → Tight (f u) u s c) → ((u : Direction) → Tight (g u) u r d) → room f g u w t ≤ℤ pos 0 → (along u v +ℤ t') ≤ℤ (along w x +ℤ pos (loose u s + loose w r))
    under s r bf bg l =
        under_by (along u v) (along w x) t t' (f (opposite u)) (g w) (loose u s) (loose w r) k (hugged_back f c v hv u s (bf (opposite u))) (hugged g d x hx w r (bg w)) l

  -- with unrounded reaches e and i
  module _ (e i : Direction → ℤ) (rf : (u : Direction) → Rounds (f u) (e u) u) (rg : (u : Direction) → Rounds (g u) (i u) u) where
    pub exact_over : pos 0 <ℤ room f g u w t → pos 0 <ℤ room e i u w t'
    exact_over l = exact_over_by t t' (f (opposite u)) (g w) (e (opposite u)) (i w) k (rf (opposite u)).over (rg w).over l

    pub exact_under : room f g u w t ≤ℤ pos 0 → room e i u w t' ≤ℤ pos (rough u + rough w)
    exact_under l =
        exact_under_by t t' (f (opposite u)) (g w) (e (opposite u)) (i w) (rough u) (rough w) k
        (subst (λ (n : ℕ). unit (f (opposite u)) ≤ℤ (e (opposite u) +ℤ pos (3 * n + rounding))) (opposite_size u) (rf (opposite u)).under) (rg w).under l

-- ---- two mixtures are not one where each x passes each y
clash : (a b : ℕ) (e f : ℤ) → 0 < a * b → e ≡ f → (f +ℤ pos (a * b)) ≤ℤ e → ⊥
clash a b e f h k l = omega (arith, ints)

some : (a b : ℕ) → 0 < a → 0 < b → 0 < a * b
some a b h k = omega (arith, mul-le-mul h k)

pub split : (a0 a1 a2 b0 b1 b2 : ℕ) (x0 x1 x2 y0 y1 y2 : ℤ) → 0 < a0 + a1 + a2 → 0 < b0 + b1 + b2 → pos (b0 + b1 + b2) *ℤ dot (pos a0) (pos a1) (pos a2) x0 x1 x2 ≡ pos (a0 + a1 + a2) *ℤ dot (pos b0) (pos b1) (pos b2) y0 y1 y2 → AllByRecursion (λ x. AllByRecursion (λ y. (y +ℤ pos 1) ≤ℤ x) (y0 ∷ y1 ∷ y2 ∷ [])) (x0 ∷ x1 ∷ x2 ∷ []) → ⊥
split a0 a1 a2 b0 b1 b2 x0 x1 x2 y0 y1 y2 sa sb e h =
    clash (a0 + a1 + a2) (b0 + b1 + b2) (pos (b0 + b1 + b2) *ℤ dot (pos a0) (pos a1) (pos a2) x0 x1 x2) (pos (a0 + a1 + a2) *ℤ dot (pos b0) (pos b1) (pos b2) y0 y1 y2) (some (a0 + a1 + a2) (b0 + b1 + b2) sa sb) e
    (le_by (pos a0 ∷ pos a1 ∷ pos a2 ∷ pos b0 ∷ pos b1 ∷ pos b2 ∷ x0 ∷ x1 ∷ x2 ∷ y0 ∷ y1 ∷ y2 ∷ [])
    ((var 0 ⊕ var 1 ⊕ var 2) ⊗ dots (var 3) (var 4) (var 5) (var 9) (var 10) (var 11) ⊕ (var 0 ⊕ var 1 ⊕ var 2) ⊗ (var 3 ⊕ var 4 ⊕ var 5))
    ((var 3 ⊕ var 4 ⊕ var 5) ⊗ dots (var 0) (var 1) (var 2) (var 6) (var 7) (var 8))
    (dots (var 0) (var 1) (var 2) (row (var 6)) (row (var 7)) (row (var 8))) refl
    (nat a0 ⊠ rest x0 h.0 ⊞ nat a1 ⊠ rest x1 h.1.0 ⊞ nat a2 ⊠ rest x2 h.1.1.0))
  where
    -- what the mixture of the y's leaves to one x
    row : Expr → Expr
    row x = dots (var 3) (var 4) (var 5) (x ⊖ (var 9 ⊕ # 1)) (x ⊖ (var 10 ⊕ # 1)) (x ⊖ (var 11 ⊕ # 1))

    rest : (x : ℤ) → AllByRecursion (λ y. (y +ℤ pos 1) ≤ℤ x) (y0 ∷ y1 ∷ y2 ∷ []) → pos 0 ≤ℤ dot (pos b0) (pos b1) (pos b2) (x -ℤ (y0 +ℤ pos 1)) (x -ℤ (y1 +ℤ pos 1)) (x -ℤ (y2 +ℤ pos 1))
    rest x k = nat b0 ⊠ gap k.0 ⊞ nat b1 ⊠ gap k.1.0 ⊞ nat b2 ⊠ gap k.1.1.0
