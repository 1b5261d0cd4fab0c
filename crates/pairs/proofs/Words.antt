-- Numbers as code computes them, through the bits of a word and back.
use Rattle.std.proofs.Common.{◌≡◌, ℕ, ◌^◌, ◌<◌, ◌≤◌, ℤ, pos, ◌-ℤ◌, ◌*ℤ◌, neg_ℤ, nat_abs, ap, ◌∙◌, arith, lit<, w16, w32, w64, to_z, of_z}
use borrow.Author.Differences.{ints}
use mir.Syntax.{Width}
use Rattle.std.proofs.lemmas.Int.{to_z-of_z}
use Rattle.integers.proofs.Fits.{fits, read}
use Rattle.placement.specs.Units.{W}
use Rattle.pairs.specs.Records.{Axis}
use Rattle.pairs.specs.Units.{axis_limit}
use Rattle.pairs.specs.Products.{along}

-- a number in a word
abbrev pub word : Width → ℤ → ℤ
word w z = to_z w (of_z w z)

-- an entry of an axis in a longer word
pub entry_read : (z : ℤ) → nat_abs z ≤ axis_limit → word w64 (word w16 z) ≡ z
entry_read z h = ap (word w64) (read w16 z axis_limit h (lit< tt)) ∙ read w64 z axis_limit h (lit< tt)

-- W times an entry of an axis
pub times_read : (z : ℤ) → nat_abs z ≤ axis_limit → word w64 (pos W *ℤ word w64 (word w16 z)) ≡ pos W *ℤ z
times_read z h = omega (arith, ints)

-- a number the other way
pub neg_read : (z : ℤ) (n : ℕ) → nat_abs z ≤ n → n < 2 ^ 63 → word w64 (pos 0 -ℤ word w64 z) ≡ neg_ℤ z
neg_read z n h k = omega (arith, ints)

-- a product with an axis, as it is asked for
pub product_read : (n : ℕ) → n < 2 ^ 31 → (l : Axis) (x y z : ℤ) → nat_abs x ≤ n → nat_abs y ≤ n → nat_abs z ≤ n → along l (word w32 x) (word w32 y) (word w32 z) ≡ along l x y z
product_read n k l x y z hx hy hz =
    let fx = fits w32 x n hx k in
    let fy = fits w32 y n hy k in
    let fz = fits w32 z n hz k in
    simp to_z-of_z
