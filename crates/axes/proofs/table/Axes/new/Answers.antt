use Rattle.std.proofs.Common.{◌≡◌, refl, rules}
use Rattle.pairs.specs.Gaps.{rounded_axis}
use Rattle.pairs.specs.Axes.{axis_at}
use Rattle.pairs.specs.Units.{axis_count}
use Rattle.pairs.proofs.AxisLaws.{all_made}
use Rattle.axes.proofs.Calls.{made}
use Rattle.axes.proofs.table.Axes.new.Goals as goal

pub invariant_of-result : goal.invariant_of-result
invariant_of-result c =
    let p = c.args.p in
    let items = c.from_fn-each.ensures.items in
    record {
      are_its = all_made p c.from_fn-each.result items.long (λ i d. made _ (λ f. f.0.now ≡ p) (λ i s. s ≡ rounded_axis p (axis_at p i)) (λ f h i s e k. search rules) axis_count _ _ d refl items i);
    }
