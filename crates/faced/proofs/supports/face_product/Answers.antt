use Rattle.std.proofs.Common.{◌≡◌, ◌*◌, ◌≤◌, ◌*ℤ◌, nat_abs, arith, lit<, w8, w16, w32, w64, SFits, rules}
use mir.Syntax.{w128}
use Rattle.std.proofs.lemmas.Int.{ints, to_z-of_z}
use Rattle.integers.proofs.Order.{small_mul}
use Rattle.integers.proofs.Fits.{fits, sum3_small}
use Rattle.hull.specs.declared.corner.Corner.{Corner}
use Rattle.hull.specs.declared.face.Face.{Face}
use Rattle.hull.specs.Units.{corner_limit}
use Rattle.hull.specs.Faces.{Small}
use Rattle.support.specs.Supports.{product}
use Rattle.faced.proofs.supports.face_product.Goals as goal

product_small : (f : Face) (p : Corner) → Small f → nat_abs (product f p) ≤ 3 * corner_limit
product_small f p s =
    sum3_small (f.x *ℤ p.x) (f.y *ℤ p.y) (f.z *ℤ p.z) corner_limit
    (small_mul f.x p.x 1 corner_limit s.small_x p.x_in)
    (small_mul f.y p.y 1 corner_limit s.small_y p.y_in)
    (small_mul f.z p.z 1 corner_limit s.small_z p.z_in)

pub returns : goal.returns
returns c =
    let f = c.args.f in
    let p = c.args.p.now in
    let s = c.requires in
    let fx : SFits w8 f.x = search rules in
    let fy : SFits w8 f.y = search rules in
    let fz : SFits w8 f.z = search rules in
    let px : SFits w16 p.x = search rules in
    let py : SFits w16 p.y = search rules in
    let pz : SFits w16 p.z = search rules in
    let gx = fits w64 f.x 1 s.small_x (lit< tt) in
    let gy = fits w64 f.y 1 s.small_y (lit< tt) in
    let gz = fits w64 f.z 1 s.small_z (lit< tt) in
    let wx : SFits w32 p.x = omega (arith, ints) in
    let wy : SFits w32 p.y = omega (arith, ints) in
    let wz : SFits w32 p.z = omega (arith, ints) in
    let e : c.dot.result ≡ product f p = simp to_z-of_z at c.dot.ensures.value in
    let r : SFits w128 c.dot.result = search rules in
    simp to_z-of_z (record { value = e; bound = rw e (product_small f p s) })
