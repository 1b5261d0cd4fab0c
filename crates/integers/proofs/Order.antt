-- The order of the integers.
use Rattle.std.proofs.Common.{◌≡◌, ℕ, suc, ◌+◌, ◌*◌, ◌≤◌, Bool, true, false, ℤ, pos, negsuc, ◌+ℤ◌, ◌-ℤ◌, ◌*ℤ◌, neg_ℤ, nat_abs, ◌≤ℤ◌, sym, refl, subst, zero-le, mul-le-mul, arith, le→leb}
use lib.Signed.{le_z}
use borrow.Author.Differences.{ints}
use Rattle.integers.proofs.Laws as L

pub le_trans : (a b c : ℤ) → a ≤ℤ b → b ≤ℤ c → a ≤ℤ c
le_trans a b c h k = omega (arith, ints)

pub le_of_eq : (a b : ℤ) → a ≡ b → a ≤ℤ b
le_of_eq a b e = omega (arith, ints)

pub le_antisymm : (a b : ℤ) → a ≤ℤ b → b ≤ℤ a → a ≡ b
le_antisymm a b h k = omega (arith, ints)

pub add_le_add : (a b c d : ℤ) → a ≤ℤ b → c ≤ℤ d → (a +ℤ c) ≤ℤ (b +ℤ d)
add_le_add a b c d h k = omega (arith, ints)

pub neg_le_neg : (a b : ℤ) → a ≤ℤ b → neg_ℤ b ≤ℤ neg_ℤ a
neg_le_neg a b h = omega (arith, ints)

pub sub_nonneg : (a b : ℤ) → a ≤ℤ b → pos 0 ≤ℤ (b -ℤ a)
sub_nonneg a b h = omega (arith, ints)

pub le_of_sub : (a b : ℤ) → pos 0 ≤ℤ (b -ℤ a) → a ≤ℤ b
le_of_sub a b h = omega (arith, ints)

pub nat_nonneg : (n : ℕ) → pos 0 ≤ℤ pos n
nat_nonneg n = record { le = le→leb 0 n zero-le }

pub add_nonneg : (a b : ℤ) → pos 0 ≤ℤ a → pos 0 ≤ℤ b → pos 0 ≤ℤ (a +ℤ b)
add_nonneg a b h k = omega (arith, ints)

pub mul_nonneg : (a b : ℤ) → pos 0 ≤ℤ a → pos 0 ≤ℤ b → pos 0 ≤ℤ (a *ℤ b)
mul_nonneg (pos a) (pos b) h k = nat_nonneg (a * b)
mul_nonneg (pos a) (negsuc b) h k = absurd k.le
mul_nonneg (negsuc a) b h k = absurd h.le

pub mul_le_mul_left : (k a b : ℤ) → pos 0 ≤ℤ k → a ≤ℤ b → (k *ℤ a) ≤ℤ (k *ℤ b)
mul_le_mul_left k a b h l =
    le_of_sub (k *ℤ a) (k *ℤ b)
    (subst (λ x. pos 0 ≤ℤ x) (L.mul_sub k b a) (mul_nonneg k (b -ℤ a) h (sub_nonneg a b l)))

-- the order is total: by cases
total : {P : Type 0} (a b : ℤ) (t : Bool) → le_z a b ≡ t → (a ≤ℤ b → P) → (b ≤ℤ a → P) → P
total a b true e f g = f (omega (arith, ints))
total a b false e f g = g (omega (arith, ints))

pub le_total : {P : Type 0} (a b : ℤ) → (a ≤ℤ b → P) → (b ≤ℤ a → P) → P
le_total a b f g = total a b (le_z a b) refl f g

or_lt : {P : Type 0} (a b : ℤ) (t : Bool) → le_z a b ≡ t → (a ≤ℤ b → P) → ((b +ℤ pos 1) ≤ℤ a → P) → P
or_lt a b true e f g = f (omega (arith, ints))
or_lt a b false e f g = g (omega (arith, ints))

pub le_or_lt : {P : Type 0} (a b : ℤ) → (a ≤ℤ b → P) → ((b +ℤ pos 1) ≤ℤ a → P) → P
le_or_lt a b f g = or_lt a b (le_z a b) refl f g

pub nat_abs_neg : (z : ℤ) → nat_abs (neg_ℤ z) ≡ nat_abs z
nat_abs_neg z = omega (arith, ints)

pub nat_abs_add : (a b : ℤ) → nat_abs (a +ℤ b) ≤ nat_abs a + nat_abs b
nat_abs_add a b = omega (arith, ints)

pub nat_abs_mul : (a b : ℤ) → nat_abs (a *ℤ b) ≡ nat_abs a * nat_abs b
nat_abs_mul (pos a) (pos b) = refl
nat_abs_mul (pos a) (negsuc b) = nat_abs_neg (pos (a * suc b))
nat_abs_mul (negsuc a) (pos b) = nat_abs_neg (pos (suc a * b))
nat_abs_mul (negsuc a) (negsuc b) = refl

pub le_nat_abs : (z : ℤ) → z ≤ℤ pos (nat_abs z)
le_nat_abs z = omega (arith, ints)

pub neg_nat_abs_le : (z : ℤ) → neg_ℤ (pos (nat_abs z)) ≤ℤ z
neg_nat_abs_le z = omega (arith, ints)

-- bounds on a size, step by step: the bounds are numerals, which compute
pub small_add : (a b : ℤ) (m n : ℕ) → nat_abs a ≤ m → nat_abs b ≤ n → nat_abs (a +ℤ b) ≤ m + n
small_add a b m n h k = omega (arith, ints)

pub small_mul : (a b : ℤ) (m n : ℕ) → nat_abs a ≤ m → nat_abs b ≤ n → nat_abs (a *ℤ b) ≤ m * n
small_mul a b m n h k = subst (λ (z : ℕ). z ≤ m * n) (sym (nat_abs_mul a b)) (mul-le-mul h k)

pub small_neg : (a : ℤ) (m : ℕ) → nat_abs a ≤ m → nat_abs (neg_ℤ a) ≤ m
small_neg a m h = omega (arith, ints)
