use Rattle.std.proofs.Common.{◌≡◌, ◌*◌, ◌≤◌, ◌*ℤ◌, nat_abs, arith, w16, w32, w64, SFits, rules}
use mir.Syntax.{w128}
use borrow.Author.Differences.{ints}
use Rattle.std.proofs.lemmas.Int.{to_z-of_z}
use Rattle.integers.proofs.Order.{small_mul}
use Rattle.integers.proofs.Fits.{sum3_small}
use Rattle.hull.specs.declared.corner.Corner.{Corner}
use Rattle.hull.specs.declared.direction.Direction.{Direction}
use Rattle.hull.specs.Units.{corner_limit, direction_limit}
use Rattle.hull.specs.Measures.{along}
use Rattle.ball.proofs.measure.dot.Goals as goal

along_small : (u : Direction) (p : Corner) → nat_abs (along u p) ≤ 3 * (direction_limit * corner_limit)
along_small u p =
    sum3_small (u.x *ℤ p.x) (u.y *ℤ p.y) (u.z *ℤ p.z) (direction_limit * corner_limit)
    (small_mul u.x p.x direction_limit corner_limit u.x_in p.x_in)
    (small_mul u.y p.y direction_limit corner_limit u.y_in p.y_in)
    (small_mul u.z p.z direction_limit corner_limit u.z_in p.z_in)

pub returns : goal.returns
returns c =
    let u = c.args.u.now in
    let p = c.args.p in
    let ux : SFits w64 u.x = search rules in
    let uy : SFits w64 u.y = search rules in
    let uz : SFits w64 u.z = search rules in
    let px : SFits w16 p.x = search rules in
    let py : SFits w16 p.y = search rules in
    let pz : SFits w16 p.z = search rules in
    let wx : SFits w32 p.x = omega (arith, ints) in
    let wy : SFits w32 p.y = omega (arith, ints) in
    let wz : SFits w32 p.z = omega (arith, ints) in
    let e : c.dot.result ≡ along u p = simp to_z-of_z at c.dot.ensures.value in
    let f : SFits w128 c.dot.result = search rules in
    simp to_z-of_z (record { value = e; bound = rw e (along_small u p) })
