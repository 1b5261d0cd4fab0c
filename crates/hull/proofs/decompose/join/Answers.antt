use Rattle.std.proofs.Common.{◌+ℤ◌, arith, w8, SFits, rules}
use borrow.Author.Differences.{ints}
use Rattle.std.proofs.lemmas.Int.{to_z-of_z}
use Rattle.hull.proofs.decompose.join.Goals as goal

pub returns : goal.returns
returns c =
    let e = c.args.e in
    let f = c.args.f in
    let ex : SFits w8 e.x = search rules in
    let ey : SFits w8 e.y = search rules in
    let ez : SFits w8 e.z = search rules in
    let fx : SFits w8 f.x = search rules in
    let fy : SFits w8 f.y = search rules in
    let fz : SFits w8 f.z = search rules in
    let x : SFits w8 (e.x +ℤ f.x) = omega (arith, ints) in
    let y : SFits w8 (e.y +ℤ f.y) = omega (arith, ints) in
    let z : SFits w8 (e.z +ℤ f.z) = omega (arith, ints) in
    simp to_z-of_z
