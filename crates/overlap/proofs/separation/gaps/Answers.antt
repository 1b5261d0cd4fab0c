use Rattle.std.proofs.Common.{◌≡◌, ◌<◌, length, ap, ◌∙◌, arith, SFits, rules}
use mir.Syntax.{w128}
use Rattle.std.proofs.lemmas.Int.{to_z-of_z}
use Rattle.pairs.specs.Units.{axis_count}
use Rattle.pairs.specs.Gaps.{gap_over_standing, gap_over_moved}
use Rattle.pairs.proofs.AxisLaws.{each_at}
use Rattle.overlap.proofs.separation.gaps.Goals as goal

pub returns : goal.returns
returns g c =
    let f = g.H.Hull.reaches c.args.moved.now in
    let k = g.H.Hull.reaches c.args.standing.now in
    let a = c.args.axes.now in
    let s = c.in_ok-s.s.now in
    let n : length a.each ≡ axis_count = search rules in
    let h : c.args.axis < axis_count = omega (arith, c.in_ok-s.ensures.lookup.3) in
    let e = c.in_ok-s.ensures.lookup.3.1 s ∙ each_at a.placement a.each a.are_its c.args.axis s h in
    let f1 : SFits w128 c.first_gap.result = search rules in
    let f2 : SFits w128 c.second_gap.result = search rules in
    record {
      there = h;
      first_is = simp to_z-of_z (c.first_gap.ensures ∙ ap (gap_over_standing f k) e);
      second_is = simp to_z-of_z (c.second_gap.ensures ∙ ap (gap_over_moved f k) e);
    }
