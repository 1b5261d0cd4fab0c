use Rattle.std.proofs.Common.{◌^◌, ◌<◌, get_or, pos, ◌+ℤ◌, ◌∙◌, ap₂, arith, lit<, w16, w64, SFits, rules}
use Rattle.std.proofs.ByRecursion.{All-get_or}
use Rattle.std.proofs.lemmas.Int.{to_z-of_z}
use Rattle.hull.specs.declared.face.FaceWeight.{FaceWeight}
use Rattle.integers.proofs.Fits.{sum3_is}
use Rattle.faced.proofs.Reaches.{terms_three}
use Rattle.faced.proofs.reach.reach_along.Goals as goal

pub bounds-values-a : goal.bounds-values-a
bounds-values-a g c = All-get_or (λ (w : FaceWeight). w.face < g.row.N) c.args.weights.now 0 _ (omega arith) c.requires

pub bounds-values-b : goal.bounds-values-b
bounds-values-b g c = All-get_or (λ (w : FaceWeight). w.face < g.row.N) c.args.weights.now 1 _ (omega arith) c.requires

pub bounds-values-c : goal.bounds-values-c
bounds-values-c g c = All-get_or (λ (w : FaceWeight). w.face < g.row.N) c.args.weights.now 2 _ (omega arith) c.requires

pub returns : goal.returns
returns g c =
    let v = c.args.values.now in
    let a = get_or c.args.weights.now 0 (record { face = 0; up = 0; down = 0 }) in
    let b = get_or c.args.weights.now 1 (record { face = 0; up = 0; down = 0 }) in
    let d = get_or c.args.weights.now 2 (record { face = 0; up = 0; down = 0 }) in
    let fa : SFits w16 (get_or v a.face (pos 0)) = search rules in
    let fb : SFits w16 (get_or v b.face (pos 0)) = search rules in
    let fd : SFits w16 (get_or v d.face (pos 0)) = search rules in
    sum3_is w64 c.part.result c.part-2.result c.part-3.result (2 ^ 47) c.part.ensures.bound c.part-2.ensures.bound c.part-3.ensures.bound (lit< tt)
    ∙ ap₂ ◌+ℤ◌ (ap₂ ◌+ℤ◌ (simp to_z-of_z at c.part.ensures.value) (simp to_z-of_z at c.part-2.ensures.value)) (simp to_z-of_z at c.part-3.ensures.value)
    ∙ terms_three v c.args.weights.now (record { face = 0; up = 0; down = 0 }) c.told-weights
