use Rattle.std.proofs.Common.{◌<◌, List, sym, ap, ◌∙◌, subst, rules, w64}
use Rattle.std.specs.List.{AllByRecursion}
use Rattle.std.proofs.lemmas.Int.{to_z-of_z}
use Rattle.hull.specs.declared.face.FaceWeight.{FaceWeight}
use Rattle.support.proofs.FacedLaws.{Decomposes}
use Rattle.faced.specs.Terms.{terms}
use Rattle.faced.proofs.Reaches.{terms_reach, faces_within}
use Rattle.faced.proofs.hulls.FacedHullHull.reach.Goals as goal

pub reach_along-requires : goal.reach_along-requires
reach_along-requires g c = (search rules, subst (λ (ws : List FaceWeight). AllByRecursion (λ (w : FaceWeight). w.face < g.row.N) ws) (sym c.weights_of.ensures) (let d : Decomposes c.args.u.now g.row.N _ = search rules in faces_within g.row.N _ d.listed))

pub returns : goal.returns
returns g c =
    let v = c.args.self.now.supports in
    let e = to_z-of_z w64 c.reach_along.result (record { sfits = c.reach_along.type_inv }) ∙ c.reach_along.ensures ∙ ap (terms v) c.weights_of.ensures ∙ terms_reach v _ in
    record { value = e; free = rw e (search rules) }
