use Rattle.std.proofs.Common.{sym, ap, ◌∙◌}
use Rattle.pairs.specs.Axes.{as_axis, turned}
use Rattle.pairs.proofs.AxisLaws.{fixed_at, turned_at}
use Rattle.axes.proofs.axis_list.axis_of.Goals as goal

pub returns-then-i-lt-FIXED_COUNT : goal.returns-then-i-lt-FIXED_COUNT
returns-then-i-lt-FIXED_COUNT c = c.into.ensures ∙ ap as_axis c.fixed_axis.ensures ∙ sym (fixed_at c.args.p.now c.args.i c.if-i-lt-FIXED_COUNT.true)

pub returns-else-i-lt-FIXED_COUNT : goal.returns-else-i-lt-FIXED_COUNT
returns-else-i-lt-FIXED_COUNT c =
    let p = c.args.p.now in
    c.turn.ensures ∙ ap (turned p) c.fixed_axis-else-i-lt-FIXED_COUNT.ensures ∙ sym (turned_at p c.args.i c.if-i-lt-FIXED_COUNT.false c.requires)
