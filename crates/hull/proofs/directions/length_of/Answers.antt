use Rattle.std.proofs.Common.{◌+◌, ◌*◌, ◌≤◌, arith}
use Rattle.integers.proofs.Roots.{root_least}
use Rattle.hull.proofs.directions.length_of.Goals as goal

pub overflow_cast-result : goal.overflow_cast-result
overflow_cast-result c =
    let n = c.square.result + c.square-2.result + c.square-3.result in
    let l : c.square.result + c.square-2.result + c.square-3.result ≤ 4294967295 * 4294967295 = omega (arith, c.square.ensures.bound, c.square-2.ensures.bound, c.square-3.ensures.bound) in
    let k = root_least n 4294967295 l in
    let e = c.ceil_root.ensures.value in
    omega arith
