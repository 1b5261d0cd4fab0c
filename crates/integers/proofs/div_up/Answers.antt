use Rattle.std.proofs.Common.{◌<◌, ◌^◌, arith}
use Rattle.std.specs.Int.{w128}
use Rattle.std.proofs.lemmas.Int.{to_z-of_z, to_z_pos}
use Rattle.integers.proofs.Rounding.{up_more, up_same, quot_fits, rest_fits, more_fits}
use Rattle.integers.proofs.div_up.Goals as goal

pub returns-then-rest-gt0 : goal.returns-then-rest-gt0
returns-then-rest-gt0 c =
    let z = c.ranges.z in
    let n : 0 < c.args.unit = omega arith in
    let b : c.args.unit < 2 ^ 127 = omega arith in
    let f = quot_fits w128 c.args.z c.args.unit z in
    let r = rest_fits w128 c.args.z c.args.unit z in
    let h = simp (to_z-of_z, to_z_pos) at c.if-rest-gt0.true in
    let m = more_fits w128 c.args.z c.args.unit z n h in
    simp (to_z-of_z, to_z_pos) (up_more c.args.z c.args.unit n h)

pub returns-else-rest-gt0 : goal.returns-else-rest-gt0
returns-else-rest-gt0 c =
    let z = c.ranges.z in
    let n : 0 < c.args.unit = omega arith in
    let b : c.args.unit < 2 ^ 127 = omega arith in
    let f = quot_fits w128 c.args.z c.args.unit z in
    let r = rest_fits w128 c.args.z c.args.unit z in
    let h = simp (to_z-of_z, to_z_pos) at c.if-rest-gt0.false in
    simp (to_z-of_z, to_z_pos) (up_same c.args.z c.args.unit n h)
