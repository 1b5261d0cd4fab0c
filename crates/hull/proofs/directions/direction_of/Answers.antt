use Rattle.std.proofs.Common.{◌≡◌, List, [], ◌∷◌, subst, w64, SFits}
use Rattle.std.proofs.lemmas.Int.{to_z-of_z}
use Rattle.hull.specs.declared.face.Weight.{Weight}
use Rattle.hull.specs.Weights.{box_weighting, sorted, Ranked}
use Rattle.hull.proofs.WeightLaws.{ranked}
use Rattle.hull.proofs.directions.direction_of.Goals as goal

pub on_many-requires : goal.on_many-requires
on_many-requires c =
    let x : SFits w64 c.args.x = c.ranges.x in
    let y : SFits w64 c.args.y = c.ranges.y in
    let z : SFits w64 c.args.z = c.ranges.z in
    let a = simp to_z-of_z at c.entry_on-a.ensures.value in
    let b = simp to_z-of_z at c.entry_on-b.ensures.value in
    let d = simp to_z-of_z at c.entry_on-c.ensures.value in
    let e : box_weighting c.args.x c.args.y c.args.z ≡ c.entry_on-a.result ∷ c.entry_on-b.result ∷ c.entry_on-c.result ∷ [] = cc in
    subst (λ (ws : List Weight). Ranked (sorted ws)) e (ranked c.args.x c.args.y c.args.z c.requires.in_x c.requires.in_y c.requires.in_z)
