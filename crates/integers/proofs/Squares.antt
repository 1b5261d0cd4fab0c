-- What a hull that is a ball needs of squares and roots.
use Rattle.std.proofs.Common.{◌≡◌, ℕ, ◌+◌, [], ◌∷◌, ℤ, pos, negsuc, ◌+ℤ◌, ◌-ℤ◌, ◌*ℤ◌, nat_abs, ◌≤ℤ◌, sym, refl, subst, ap₂, arith}
use borrow.Author.Differences.{ints}
use Rattle.integers.proofs.Order.{le_trans, le_or_lt}
use Rattle.integers.proofs.Ring.{Expr, var, ◌⊕◌, ◌⊖◌, ◌⊗◌, #}
use Rattle.integers.proofs.Certificates.{le_by, gap, nat, square, ◌⊞◌, ◌⊠◌}

abbrev sq : Expr → Expr
sq e = e ⊗ e

clash : (a b : ℤ) → a ≤ℤ b → (b +ℤ pos 1) ≤ℤ a → ⊥
clash a b h k = omega (arith, ints)

-- a larger number has the larger square
square_lt : (x y : ℤ) → pos 0 ≤ℤ y → (y +ℤ pos 1) ≤ℤ x → (y *ℤ y +ℤ pos 1) ≤ℤ (x *ℤ x)
square_lt x y n l =
    le_by (x ∷ y ∷ []) (sq (var 1) ⊕ # 1) (sq (var 0))
    (sq (var 0 ⊖ (var 1 ⊕ # 1)) ⊕ # 2 ⊗ (var 1 ⊕ # 1) ⊗ (var 0 ⊖ (var 1 ⊕ # 1)) ⊕ # 2 ⊗ var 1) refl
    (square (x -ℤ (y +ℤ pos 1)) ⊞ nat 2 ⊠ (n ⊞ nat 1) ⊠ gap l ⊞ nat 2 ⊠ n)

-- a number whose square is at most that of y is at most y, if y is not negative
pub le_of_square : (x y : ℤ) → pos 0 ≤ℤ y → (x *ℤ x) ≤ℤ (y *ℤ y) → x ≤ℤ y
le_of_square x y n h = le_or_lt x y (λ l. l) (λ l. absurd (clash (x *ℤ x) (y *ℤ y) h (square_lt x y n l)))

-- (u · w) ≤ n r where |u|² ≤ n² and |w|² ≤ r²
pub dot_le : (a b c d e f : ℤ) (n r : ℕ) → (a *ℤ a +ℤ b *ℤ b +ℤ c *ℤ c) ≤ℤ (pos n *ℤ pos n) → (d *ℤ d +ℤ e *ℤ e +ℤ f *ℤ f) ≤ℤ (pos r *ℤ pos r) → (a *ℤ d +ℤ b *ℤ e +ℤ c *ℤ f) ≤ℤ (pos n *ℤ pos r)
dot_le a b c d e f n r h k =
    le_of_square (a *ℤ d +ℤ b *ℤ e +ℤ c *ℤ f) (pos n *ℤ pos r) (nat n ⊠ nat r)
    (le_by (a ∷ b ∷ c ∷ d ∷ e ∷ f ∷ pos n ∷ pos r ∷ []) (sq (var 0 ⊗ var 3 ⊕ var 1 ⊗ var 4 ⊕ var 2 ⊗ var 5)) (sq (var 6 ⊗ var 7))
    (sq (var 1 ⊗ var 5 ⊖ var 2 ⊗ var 4) ⊕ sq (var 2 ⊗ var 3 ⊖ var 0 ⊗ var 5) ⊕ sq (var 0 ⊗ var 4 ⊖ var 1 ⊗ var 3)
    ⊕ (sq (var 6) ⊖ (sq (var 0) ⊕ sq (var 1) ⊕ sq (var 2))) ⊗ (sq (var 3) ⊕ sq (var 4) ⊕ sq (var 5))
    ⊕ sq (var 6) ⊗ (sq (var 7) ⊖ (sq (var 3) ⊕ sq (var 4) ⊕ sq (var 5)))) refl
    (square (b *ℤ f -ℤ c *ℤ e) ⊞ square (c *ℤ d -ℤ a *ℤ f) ⊞ square (a *ℤ e -ℤ b *ℤ d) ⊞ gap h ⊠ (square d ⊞ square e ⊞ square f) ⊞ square (pos n) ⊠ gap k))

-- the root of 3 s², rounded up, is at most 7 s / 4 + 1
pub root_three : (r s : ℕ) → (pos r *ℤ pos r) ≤ℤ (pos 3 *ℤ (pos s *ℤ pos s)) → (pos 4 *ℤ pos r) ≤ℤ (pos 7 *ℤ pos s)
root_three r s h =
    le_of_square (pos 4 *ℤ pos r) (pos 7 *ℤ pos s) (nat 7 ⊠ nat s)
    (le_by (pos r ∷ pos s ∷ []) (sq (# 4 ⊗ var 0)) (sq (# 7 ⊗ var 1)) (# 16 ⊗ (# 3 ⊗ sq (var 1) ⊖ sq (var 0)) ⊕ sq (var 1)) refl
    (nat 16 ⊠ gap h ⊞ square (pos s)))

-- the root of u · u, rounded up, is at most |u|: n is one less than it
pub root_size : (a b c : ℤ) (n : ℕ) → (pos n *ℤ pos n) ≤ℤ (a *ℤ a +ℤ b *ℤ b +ℤ c *ℤ c) → pos n ≤ℤ pos (nat_abs a + nat_abs b + nat_abs c)
root_size a b c n h =
    le_of_square (pos n) (pos (nat_abs a + nat_abs b + nat_abs c)) (nat (nat_abs a + nat_abs b + nat_abs c))
    (le_trans (pos n *ℤ pos n) (a *ℤ a +ℤ b *ℤ b +ℤ c *ℤ c) (pos (nat_abs a + nat_abs b + nat_abs c) *ℤ pos (nat_abs a + nat_abs b + nat_abs c)) h (sized a b c))
  where
    own : (z : ℤ) → z *ℤ z ≡ pos (nat_abs z) *ℤ pos (nat_abs z)
    own (pos n) = refl
    own (negsuc n) = refl

    sized : (a b c : ℤ) → (a *ℤ a +ℤ b *ℤ b +ℤ c *ℤ c) ≤ℤ (pos (nat_abs a + nat_abs b + nat_abs c) *ℤ pos (nat_abs a + nat_abs b + nat_abs c))
    sized a b c =
        subst (λ (z : ℤ). z ≤ℤ (pos (nat_abs a + nat_abs b + nat_abs c) *ℤ pos (nat_abs a + nat_abs b + nat_abs c))) (sym (ap₂ ◌+ℤ◌ (ap₂ ◌+ℤ◌ (own a) (own b)) (own c)))
        (le_by (pos (nat_abs a) ∷ pos (nat_abs b) ∷ pos (nat_abs c) ∷ []) (sq (var 0) ⊕ sq (var 1) ⊕ sq (var 2)) (sq (var 0 ⊕ var 1 ⊕ var 2))
        (# 2 ⊗ (var 0 ⊗ var 1 ⊕ var 0 ⊗ var 2 ⊕ var 1 ⊗ var 2)) refl
        (nat 2 ⊠ (nat (nat_abs a) ⊠ nat (nat_abs b) ⊞ nat (nat_abs a) ⊠ nat (nat_abs c) ⊞ nat (nat_abs b) ⊠ nat (nat_abs c))))
