use Rattle.std.proofs.Common.{◌*◌, ◌^◌, ◌≤◌, arith}
use Rattle.integers.proofs.Roots.{root_least}
use Rattle.ball.proofs.distance.distance.Goals as goal

pub overflow_cast-result : goal.overflow_cast-result
overflow_cast-result c =
    let n = c.squared_distance-sum.result in
    let l : n ≤ 2 ^ 17 * 2 ^ 17 = omega arith in
    let k = root_least n (2 ^ 17) l in
    omega arith
