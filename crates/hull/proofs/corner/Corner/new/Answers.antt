use Rattle.std.proofs.Common.{lit<, rules}
use Rattle.std.specs.Int.{w16}
use Rattle.std.proofs.lemmas.Int.{to_z-of_z}
use Rattle.integers.proofs.Fits.{read}
use Rattle.hull.specs.Units.{corner_limit, Within}
use Rattle.hull.proofs.corner.Corner.new.Goals as goal

pub returns-then-within : goal.returns-then-within
returns-then-within c =
    let x = c.ranges.x in
    let y = c.ranges.y in
    let z = c.ranges.z in
    let l : Within corner_limit c.args.x c.args.y c.args.z = simp to_z-of_z at (c.within.ensures.0 (search rules)) in
    simp to_z-of_z (read w16 c.args.x corner_limit l.in_x (lit< tt), read w16 c.args.y corner_limit l.in_y (lit< tt), read w16 c.args.z corner_limit l.in_z (lit< tt))
