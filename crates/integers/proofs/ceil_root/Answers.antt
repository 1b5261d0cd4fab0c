use Rattle.std.proofs.Common.{◌≡◌, ℕ, ◌+◌, ◌-◌, ◌*◌, ◌<◌, ◌≤◌, lt_of_lt_of_le, lt_of_le_of_lt, le_of_lt, mul-le-mul_left, mul-lt-mul_of_pos_right, arith}
use Rattle.integers.proofs.Roots.{root_is}
use Rattle.integers.proofs.ceil_root.Goals as goal

below : (f : ℕ) → 0 < f → (f - 1) * (f - 1) < f * f
below f h =
    let l : f - 1 ≤ f = omega arith in
    let k : f - 1 < f = omega arith in
    lt_of_le_of_lt (mul-le-mul_left (f - 1) l) (mul-lt-mul_of_pos_right k h)

next : (f n : ℕ) → f * f < n → 0 < f + 1 → (f + 1 - 1) * (f + 1 - 1) < n
next f n h p = let e : f + 1 - 1 ≡ f = omega arith in rw e h

pub returns-then-f-n : goal.returns-then-f-n
returns-then-f-n c =
    let f = c.isqrt-f.result in
    let n = c.args.n in
    record { value = root_is n (f + 1) (le_of_lt c.isqrt-f.ensures.next_square_gt) (next f n c.if-f-n.true); bound = omega arith }

pub returns-else-f-n : goal.returns-else-f-n
returns-else-f-n c =
    let f = c.isqrt-f.result in
    record { value = root_is c.args.n f c.if-f-n.false (λ h. lt_of_lt_of_le (below f h) c.isqrt-f.ensures.square_le); bound = omega arith }
