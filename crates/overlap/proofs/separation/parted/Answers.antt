use Rattle.std.proofs.Common.{◌<◌, ◌≤◌, T, length, sym, subst, arith}
use Rattle.std.specs.List.{AllByRecursion}
use Rattle.std.proofs.ByRecursion.{All-more}
use Rattle.std.proofs.lemmas.List.{take_all}
use Rattle.pairs.specs.Units.{axis_count}
use Rattle.pairs.specs.Gaps.{Parts}
use Rattle.pairs.proofs.PairLaws.{touching_unparted, unparted_near, parted_unrounded, unparted_unrounded_near}
use Rattle.pairs.proofs.AxisLaws.{each_length, some_parts, none_parts}
use Rattle.overlap.proofs.separation.parted.Goals as goal

pub loop-axis-preserved : goal.loop-axis-preserved
loop-axis-preserved g c =
    let f = g.H.Hull.reaches c.args.moved.now in
    let k = g.H.Hull.reaches c.args.standing.now in
    let h : c.loop-axis.axis-index < length c.args.axes.now.each = omega arith in
    All-more (λ s. Parts f k s → ⊥) c.args.axes.now.each c.loop-axis.axis-index c.axis-item.result h c.loop-axis.invariant (λ p. subst T c.if-parts.false (c.parts.ensures.no p))

pub returns-then-parts : goal.returns-then-parts
returns-then-parts g c =
    let f = g.H.Hull.reaches c.args.moved.now in
    let k = g.H.Hull.reaches c.args.standing.now in
    let laws = g.met.H.Hull in
    let a = c.args.axes.now in
    let p = a.placement in
    let n = each_length p a.each a.are_its in
    let h : c.loop-axis.axis-index < axis_count = omega arith in
    let yes = some_parts p a.each a.are_its f k c.loop-axis.axis-index c.axis-item.result h (c.parts.ensures.yes (subst T (sym c.if-parts.true) tt)) in
    record {
      found = λ _. yes;
      missed = λ _. tt;
      touching = touching_unparted p _ _ f k (laws.covers _) (laws.covers _) _ (λ _. yes);
      near = unparted_near p _ _ f k (laws.tight _) (laws.tight _) _ (λ _. tt);
      parts_unrounded = parted_unrounded p _ _ f k _ _ (laws.rounds _) (laws.rounds _);
      near_unrounded = unparted_unrounded_near p _ _ f k _ _ (laws.rounds _) (laws.rounds _) _ (λ _. tt);
    }

pub returns : goal.returns
returns g c =
    let f = g.H.Hull.reaches c.args.moved.now in
    let k = g.H.Hull.reaches c.args.standing.now in
    let laws = g.met.H.Hull in
    let a = c.args.axes.now in
    let p = a.placement in
    let n = each_length p a.each a.are_its in
    let h : length c.args.axes.now.each ≤ c.loop-axis.axis-index = omega arith in
    let no = none_parts p a.each a.are_its f k (subst (AllByRecursion (λ s. Parts f k s → ⊥)) (take_all c.loop-axis.axis-index a.each h) c.loop-axis.invariant) in
    record {
      found = λ t. absurd t;
      missed = no;
      touching = touching_unparted p _ _ f k (laws.covers _) (laws.covers _) _ (λ t. absurd t);
      near = unparted_near p _ _ f k (laws.tight _) (laws.tight _) _ no;
      parts_unrounded = parted_unrounded p _ _ f k _ _ (laws.rounds _) (laws.rounds _);
      near_unrounded = unparted_unrounded_near p _ _ f k _ _ (laws.rounds _) (laws.rounds _) _ no;
    }
