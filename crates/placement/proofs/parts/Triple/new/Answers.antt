use Rattle.std.proofs.Common.{rules}
use Rattle.std.specs.Int.{w32}
use Rattle.std.proofs.lemmas.Int.{to_z-of_z}
use Rattle.integers.proofs.Fits.{read}
use Rattle.hull.specs.Units.{Within}
use Rattle.placement.proofs.parts.Triple.new.Goals as goal

pub returns-then-within : goal.returns-then-within
returns-then-within g c =
    let x = c.ranges.x in
    let y = c.ranges.y in
    let z = c.ranges.z in
    let n = g.row.LIMIT in
    let l : Within n c.args.x c.args.y c.args.z = simp to_z-of_z at (c.within.ensures.0 (search rules)) in
    simp to_z-of_z (read w32 c.args.x n l.in_x c.requires, read w32 c.args.y n l.in_y c.requires, read w32 c.args.z n l.in_z c.requires)
