-- A number that is small enough fits its width, and is read back from its bits.
use Rattle.std.proofs.Common.{◌≡◌, ℕ, ◌+◌, ◌^◌, ◌<◌, ◌≤◌, ℤ, pos, negsuc, ◌+ℤ◌, nat_abs, ◌∙◌, ap₂, lt_of_le_of_lt, arith, SFits, to_z, of_z}
use mir.Syntax.{Width}
use mir.Val.{hbits}
use Rattle.std.proofs.lemmas.Int.{to_z-of_z}
use Rattle.integers.proofs.Order.{small_add}

pub fits : (w : Width) (z : ℤ) (n : ℕ) → nat_abs z ≤ n → n < 2 ^ hbits w → SFits w z
fits w (pos z) n h k = record { sfits = lt_of_le_of_lt h k }
fits w (negsuc z) n h k = record { sfits = omega arith }

-- a number as it stands in a word
pub read : (w : Width) (z : ℤ) (n : ℕ) → nat_abs z ≤ n → n < 2 ^ hbits w → to_z w (of_z w z) ≡ z
read w z n h k = to_z-of_z w z (fits w z n h k)

-- a sum as code computes it
pub sum_fits : (w : Width) (a b : ℤ) (m n : ℕ) → nat_abs a ≤ m → nat_abs b ≤ n → m + n < 2 ^ hbits w → SFits w (to_z w (of_z w a) +ℤ to_z w (of_z w b))
sum_fits w a b m n h k l =
    let fa = fits w a m h (omega arith) in
    let fb = fits w b n k (omega arith) in
    simp to_z-of_z (fits w (a +ℤ b) (m + n) (small_add a b m n h k) l)

pub sum_is : (w : Width) (a b : ℤ) (m n : ℕ) → nat_abs a ≤ m → nat_abs b ≤ n → m + n < 2 ^ hbits w → to_z w (of_z w (to_z w (of_z w a) +ℤ to_z w (of_z w b))) ≡ a +ℤ b
sum_is w a b m n h k l =
    let fa = fits w a m h (omega arith) in
    let fb = fits w b n k (omega arith) in
    let f = fits w (a +ℤ b) (m + n) (small_add a b m n h k) l in
    simp to_z-of_z

-- a sum of three
pub sum3_fits : (w : Width) (a b c : ℤ) (n : ℕ) → nat_abs a ≤ n → nat_abs b ≤ n → nat_abs c ≤ n → n + n + n < 2 ^ hbits w → SFits w (to_z w (of_z w (to_z w (of_z w a) +ℤ to_z w (of_z w b))) +ℤ to_z w (of_z w c))
sum3_fits w a b c n f g h l =
    let s = sum_is w a b n n f g (omega arith) in
    simp s (small3 (small_add a b n n f g))
  where
    small3 : nat_abs (a +ℤ b) ≤ n + n → SFits w (a +ℤ b +ℤ to_z w (of_z w c))
    small3 k = let e = read w c n h (omega arith) in simp e (fits w (a +ℤ b +ℤ c) (n + n + n) (small_add (a +ℤ b) c (n + n) n k h) l)

pub sum3_is : (w : Width) (a b c : ℤ) (n : ℕ) → nat_abs a ≤ n → nat_abs b ≤ n → nat_abs c ≤ n → n + n + n < 2 ^ hbits w → to_z w (of_z w (to_z w (of_z w (to_z w (of_z w a) +ℤ to_z w (of_z w b))) +ℤ to_z w (of_z w c))) ≡ a +ℤ b +ℤ c
sum3_is w a b c n f g h l =
    to_z-of_z w (to_z w (of_z w (to_z w (of_z w a) +ℤ to_z w (of_z w b))) +ℤ to_z w (of_z w c)) (sum3_fits w a b c n f g h l)
    ∙ ap₂ ◌+ℤ◌ (sum_is w a b n n f g (omega arith)) (read w c n h (omega arith))

pub sum3_small : (a b c : ℤ) (n : ℕ) → nat_abs a ≤ n → nat_abs b ≤ n → nat_abs c ≤ n → nat_abs (a +ℤ b +ℤ c) ≤ n + n + n
sum3_small a b c n f g h = small_add (a +ℤ b) c (n + n) n (small_add a b n n f g) h
