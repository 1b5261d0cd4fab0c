use Rattle.std.proofs.Common.{w8, SFits, rules}
use Rattle.std.proofs.lemmas.Int.{to_z-of_z}
use Rattle.hull.proofs.FaceTable.{place_is}
use Rattle.hull.proofs.decompose.place_of.Goals as goal

pub returns : goal.returns
returns c =
    let x : SFits w8 c.args.f.x = search rules in
    let y : SFits w8 c.args.f.y = search rules in
    let z : SFits w8 c.args.f.z = search rules in
    simp (c.index.ensures.0, c.index-2.ensures.0, c.index-3.ensures.0, to_z-of_z) (place_is c.args.f c.requires)
