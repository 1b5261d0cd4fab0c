-- Inequalities by a certificate. `le_by env a b s refl h` proves a ≤ b where b - a is, as a polynomial, the expression s,
-- and h says that s is not negative; h is put together by `⊞`, `⊠`, `square` and `nat` from facts 0 ≤ p.
use Rattle.std.proofs.Common.{◌≡◌, ℕ, suc, ◌*◌, List, ℤ, pos, negsuc, ◌+ℤ◌, ◌-ℤ◌, ◌*ℤ◌, ◌≤ℤ◌, sym, subst}
use Rattle.integers.proofs.Order.{le_of_sub, sub_nonneg, add_nonneg, mul_nonneg, nat_nonneg}
use Rattle.integers.proofs.Ring.{Expr, ◌⊖◌, eval, norm, solve}

infixl 6 ◌⊞◌
infixl 7 ◌⊠◌
pub ◌⊞◌ : {a b : ℤ} → pos 0 ≤ℤ a → pos 0 ≤ℤ b → pos 0 ≤ℤ (a +ℤ b)
◌⊞◌ {a} {b} h k = add_nonneg a b h k

pub ◌⊠◌ : {a b : ℤ} → pos 0 ≤ℤ a → pos 0 ≤ℤ b → pos 0 ≤ℤ (a *ℤ b)
◌⊠◌ {a} {b} h k = mul_nonneg a b h k

pub square : (a : ℤ) → pos 0 ≤ℤ (a *ℤ a)
square (pos n) = nat_nonneg (n * n)
square (negsuc n) = nat_nonneg (suc n * suc n)

pub nat : (n : ℕ) → pos 0 ≤ℤ pos n
nat n = nat_nonneg n

-- 0 ≤ b - a
pub gap : {a b : ℤ} → a ≤ℤ b → pos 0 ≤ℤ (b -ℤ a)
gap {a} {b} h = sub_nonneg a b h

pub le_by : (env : List ℤ) (a b s : Expr) → norm (b ⊖ a) ≡ norm s → pos 0 ≤ℤ eval env s → eval env a ≤ℤ eval env b
le_by env a b s e h =
    le_of_sub (eval env a) (eval env b) (subst (λ (z : ℤ). pos 0 ≤ℤ z) (sym (solve env (b ⊖ a) s e)) h)
