-- The solver at work.
use Rattle.std.proofs.Common.{◌≡◌, [], ◌∷◌, ℤ, pos, ◌+ℤ◌, ◌-ℤ◌, ◌*ℤ◌, ◌≤ℤ◌, refl}
use Rattle.integers.proofs.Ring.{Expr, var, ◌⊕◌, ◌⊖◌, ◌⊗◌, #, solve}
use Rattle.integers.proofs.Certificates.{le_by, square, ◌⊞◌}

small : (a b c d : ℤ) → (a +ℤ b) *ℤ (c -ℤ d) ≡ a *ℤ c -ℤ a *ℤ d +ℤ b *ℤ c -ℤ b *ℤ d
small a b c d =
    solve (a ∷ b ∷ c ∷ d ∷ []) ((var 0 ⊕ var 1) ⊗ (var 2 ⊖ var 3))
    (var 0 ⊗ var 2 ⊖ var 0 ⊗ var 3 ⊕ var 1 ⊗ var 2 ⊖ var 1 ⊗ var 3) refl

-- (a × b) · c is (b × c) · a: nine variables
turned : (a b c d e f g h i : ℤ) → (b *ℤ f -ℤ c *ℤ e) *ℤ g +ℤ (c *ℤ d -ℤ a *ℤ f) *ℤ h +ℤ (a *ℤ e -ℤ b *ℤ d) *ℤ i ≡ (e *ℤ i -ℤ f *ℤ h) *ℤ a +ℤ (f *ℤ g -ℤ d *ℤ i) *ℤ b +ℤ (d *ℤ h -ℤ e *ℤ g) *ℤ c
turned a b c d e f g h i =
    solve (a ∷ b ∷ c ∷ d ∷ e ∷ f ∷ g ∷ h ∷ i ∷ [])
    ((var 1 ⊗ var 5 ⊖ var 2 ⊗ var 4) ⊗ var 6 ⊕ (var 2 ⊗ var 3 ⊖ var 0 ⊗ var 5) ⊗ var 7 ⊕ (var 0 ⊗ var 4 ⊖ var 1 ⊗ var 3) ⊗ var 8)
    ((var 4 ⊗ var 8 ⊖ var 5 ⊗ var 7) ⊗ var 0 ⊕ (var 5 ⊗ var 6 ⊖ var 3 ⊗ var 8) ⊗ var 1 ⊕ (var 3 ⊗ var 7 ⊖ var 4 ⊗ var 6) ⊗ var 2)
    refl

-- Lagrange: |a × b|² + (a · b)² = |a|² |b|², with nine and more monomials of degree four
abbrev sq : Expr → Expr
sq e = e ⊗ e

lagrange : (a b c d e f : ℤ) → (b *ℤ f -ℤ c *ℤ e) *ℤ (b *ℤ f -ℤ c *ℤ e) +ℤ (c *ℤ d -ℤ a *ℤ f) *ℤ (c *ℤ d -ℤ a *ℤ f) +ℤ (a *ℤ e -ℤ b *ℤ d) *ℤ (a *ℤ e -ℤ b *ℤ d) +ℤ (a *ℤ d +ℤ b *ℤ e +ℤ c *ℤ f) *ℤ (a *ℤ d +ℤ b *ℤ e +ℤ c *ℤ f) ≡ (a *ℤ a +ℤ b *ℤ b +ℤ c *ℤ c) *ℤ (d *ℤ d +ℤ e *ℤ e +ℤ f *ℤ f)
lagrange a b c d e f =
    solve (a ∷ b ∷ c ∷ d ∷ e ∷ f ∷ [])
    (sq (var 1 ⊗ var 5 ⊖ var 2 ⊗ var 4) ⊕ sq (var 2 ⊗ var 3 ⊖ var 0 ⊗ var 5) ⊕ sq (var 0 ⊗ var 4 ⊖ var 1 ⊗ var 3) ⊕ sq (var 0 ⊗ var 3 ⊕ var 1 ⊗ var 4 ⊕ var 2 ⊗ var 5))
    ((sq (var 0) ⊕ sq (var 1) ⊕ sq (var 2)) ⊗ (sq (var 3) ⊕ sq (var 4) ⊕ sq (var 5))) refl

-- nine variables, 45 monomials: (x₀ + … + x₈)² in two orders
wide : (a b c d e f g h i : ℤ) → (a +ℤ b +ℤ c +ℤ d +ℤ e +ℤ f +ℤ g +ℤ h +ℤ i) *ℤ (a +ℤ b +ℤ c +ℤ d +ℤ e +ℤ f +ℤ g +ℤ h +ℤ i) ≡ (i +ℤ h +ℤ g +ℤ f +ℤ e +ℤ d +ℤ c +ℤ b +ℤ a) *ℤ (i +ℤ h +ℤ g +ℤ f +ℤ e +ℤ d +ℤ c +ℤ b +ℤ a)
wide a b c d e f g h i =
    solve (a ∷ b ∷ c ∷ d ∷ e ∷ f ∷ g ∷ h ∷ i ∷ [])
    (sq (var 0 ⊕ var 1 ⊕ var 2 ⊕ var 3 ⊕ var 4 ⊕ var 5 ⊕ var 6 ⊕ var 7 ⊕ var 8))
    (sq (var 8 ⊕ var 7 ⊕ var 6 ⊕ var 5 ⊕ var 4 ⊕ var 3 ⊕ var 2 ⊕ var 1 ⊕ var 0)) refl

-- 2 a b ≤ a² + b²
middle : (a b : ℤ) → (pos 2 *ℤ (a *ℤ b)) ≤ℤ (a *ℤ a +ℤ b *ℤ b)
middle a b = le_by (a ∷ b ∷ []) (# 2 ⊗ (var 0 ⊗ var 1)) (sq (var 0) ⊕ sq (var 1)) (sq (var 0 ⊖ var 1)) refl (square (a -ℤ b))

-- Cauchy and Schwarz in three dimensions: (u · v)² ≤ |u|² |v|²
cauchy : (a b c d e f : ℤ) → ((a *ℤ d +ℤ b *ℤ e +ℤ c *ℤ f) *ℤ (a *ℤ d +ℤ b *ℤ e +ℤ c *ℤ f)) ≤ℤ ((a *ℤ a +ℤ b *ℤ b +ℤ c *ℤ c) *ℤ (d *ℤ d +ℤ e *ℤ e +ℤ f *ℤ f))
cauchy a b c d e f =
    le_by (a ∷ b ∷ c ∷ d ∷ e ∷ f ∷ []) (sq (var 0 ⊗ var 3 ⊕ var 1 ⊗ var 4 ⊕ var 2 ⊗ var 5))
    ((sq (var 0) ⊕ sq (var 1) ⊕ sq (var 2)) ⊗ (sq (var 3) ⊕ sq (var 4) ⊕ sq (var 5)))
    (sq (var 1 ⊗ var 5 ⊖ var 2 ⊗ var 4) ⊕ sq (var 2 ⊗ var 3 ⊖ var 0 ⊗ var 5) ⊕ sq (var 0 ⊗ var 4 ⊖ var 1 ⊗ var 3))
    refl (square (b *ℤ f -ℤ c *ℤ e) ⊞ square (c *ℤ d -ℤ a *ℤ f) ⊞ square (a *ℤ e -ℤ b *ℤ d))
