-- Rounded quotients, from both sides.
use Rattle.std.proofs.Common.{◌≡◌, ℕ, suc, ◌+◌, ◌-◌, ◌*◌, ◌/◌, ◌%◌, ◌^◌, ◌<◌, ◌≤◌, ℤ, pos, negsuc, ◌+ℤ◌, ◌*ℤ◌, neg_ℤ, ◌≤ℤ◌, true, false, sym, ap, subst, refl, mod-lt, arith, SFits, mul-le-mul_left}
use mir.Val.{hbits}
use Rattle.std.proofs.Math.Nat.{div-add-mod, div-eq_of_lt-le, div-le_self, mod-le, mul_comm, add-mul}
use Rattle.std.proofs.lemmas.Int.{ints}
use Rattle.std.specs.Int.{Width}
use Rattle.std.specs.Int.Signed.{quot_z, rem_z, lt_z}
use Rattle.integers.specs.Rounding.{div_up}
use Rattle.integers.proofs.Laws.{mul_neg}

-- over bare numbers: p is a product of a divisor n and a quotient, and r the rest
up_pos : (k n p r : ℕ) → p + r ≡ k + (n - 1) → r < n → (pos k ≤ℤ pos p) × (pos p ≤ℤ (pos k +ℤ pos (n - 1)))
up_pos k n p r e l = (omega (arith, ints), omega (arith, ints))

up_neg : (k n p r : ℕ) → p + r ≡ suc k → r < n → (negsuc k ≤ℤ neg_ℤ (pos p)) × (neg_ℤ (pos p) ≤ℤ (negsuc k +ℤ pos (n - 1)))
up_neg k n p r e l = (omega (arith, ints), omega (arith, ints))

-- z ≤ n × (z / n rounded up) ≤ z + (n - 1)
pub div_up_bounds : (z : ℤ) (n : ℕ) → 0 < n → (z ≤ℤ (pos n *ℤ div_up z n)) × ((pos n *ℤ div_up z n) ≤ℤ (z +ℤ pos (n - 1)))
div_up_bounds (pos k) n h = up_pos k n (n * ((k + (n - 1)) / n)) ((k + (n - 1)) % n) (div-add-mod (k + (n - 1)) n) (mod-lt (k + (n - 1)) h)
div_up_bounds (negsuc k) n h =
    subst (λ (y : ℤ). (negsuc k ≤ℤ y) × (y ≤ℤ (negsuc k +ℤ pos (n - 1)))) (sym (mul_neg (pos n) (pos (suc k / n))))
    (up_neg k n (n * (suc k / n)) (suc k % n) (div-add-mod (suc k) n) (mod-lt (suc k) h))

-- as code rounds up: a quotient rounded towards 0, and one more where the rest is positive
next : (k n : ℕ) → 0 < n → 0 < k % n → k / n + 1 ≡ (k + (n - 1)) / n
next k n h l = sym (div-eq_of_lt-le n (lower (k / n) n (k % n) k h l (div-add-mod k n)) (upper (k / n) n (k % n) k h (mod-lt k h) (div-add-mod k n)))
  where
    lower : (q n r k : ℕ) → 0 < n → 0 < r → n * q + r ≡ k → (q + 1) * n ≤ k + (n - 1)
    lower q n r k h l e = omega (arith, add-mul q 1 n, mul_comm q n)

    upper : (q n r k : ℕ) → 0 < n → r < n → n * q + r ≡ k → k + (n - 1) < (q + 1 + 1) * n
    upper q n r k h l e = omega (arith, add-mul q 2 n, mul_comm q n)

same : (k n : ℕ) → 0 < n → k % n ≤ 0 → k / n ≡ (k + (n - 1)) / n
same k n h l = sym (div-eq_of_lt-le n (lower (k / n) n (k % n) k (div-add-mod k n)) (upper (k / n) n (k % n) k h l (div-add-mod k n)))
  where
    lower : (q n r k : ℕ) → n * q + r ≡ k → q * n ≤ k + (n - 1)
    lower q n r k e = omega (arith, mul_comm q n)

    upper : (q n r k : ℕ) → 0 < n → r ≤ 0 → n * q + r ≡ k → k + (n - 1) < (q + 1) * n
    upper q n r k h l e = omega (arith, add-mul q 1 n, mul_comm q n)

pub up_more : (z : ℤ) (n : ℕ) → 0 < n → lt_z (pos 0) (rem_z z (pos n)) ≡ true → quot_z z (pos n) +ℤ pos 1 ≡ div_up z n
up_more (pos k) n h l = ap pos (next k n h (omega (arith, ints)))
up_more (negsuc k) n h l = absurd (none (suc k % n) l)
  where
    none : (r : ℕ) → lt_z (pos 0) (neg_ℤ (pos r)) ≡ true → ⊥
    none r l = omega (arith, ints)

pub up_same : (z : ℤ) (n : ℕ) → 0 < n → lt_z (pos 0) (rem_z z (pos n)) ≡ false → quot_z z (pos n) ≡ div_up z n
up_same (pos k) n h l = ap pos (same k n h (omega (arith, ints)))
up_same (negsuc k) n h l = refl

-- and it stays in its width
pub quot_fits : (w : Width) (z : ℤ) (n : ℕ) → SFits w z → SFits w (quot_z z (pos n))
quot_fits w (pos k) n h = let l = div-le_self k n in record { sfits = omega arith }
quot_fits w (negsuc k) n h = below (suc k / n) (div-le_self (suc k) n)
  where
    below : (m : ℕ) → m ≤ suc k → SFits w (neg_ℤ (pos m))
    below m l = omega (arith, ints)

pub rest_fits : (w : Width) (z : ℤ) (n : ℕ) → SFits w z → SFits w (rem_z z (pos n))
rest_fits w (pos k) n h = let l = mod-le k n in record { sfits = omega arith }
rest_fits w (negsuc k) n h = below (suc k % n) (mod-le (suc k) n)
  where
    below : (m : ℕ) → m ≤ suc k → SFits w (neg_ℤ (pos m))
    below m l = omega (arith, ints)

pub more_fits : (w : Width) (z : ℤ) (n : ℕ) → SFits w z → 0 < n → lt_z (pos 0) (rem_z z (pos n)) ≡ true → SFits w (quot_z z (pos n) +ℤ pos 1)
more_fits w (pos k) n h p l = record { sfits = below (k / n) (k % n) (div-add-mod k n) (omega (arith, ints)) }
  where
    below : (q r : ℕ) → n * q + r ≡ k → 0 < r → q + 1 < 2 ^ hbits w
    below q r e m = let t : q * 1 ≤ q * n = mul-le-mul_left q p in omega (arith, mul_comm q n)
more_fits w (negsuc k) n h p l = absurd (none (suc k % n) l)
  where
    none : (r : ℕ) → lt_z (pos 0) (neg_ℤ (pos r)) ≡ true → ⊥
    none r l = omega (arith, ints)
