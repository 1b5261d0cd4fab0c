use Rattle.std.proofs.Common.{sym, ap, ◌∙◌, subst, rules}
use Rattle.hull.specs.declared.face.Face.{Face}
use Rattle.hull.specs.Faces.{joined, Small}
use Rattle.hull.proofs.WeightLaws.{small_edge, small_tip}
use Rattle.hull.proofs.decompose.stack.Goals as goal

pub join-tip-requires : goal.join-tip-requires
join-tip-requires c = (subst Small (sym c.join-edge.ensures) (small_edge c.args.p c.args.q c.args.r c.requires), search rules)

pub divide-requires-2 : goal.divide-requires-2
divide-requires-2 c = subst Small (sym c.join-edge.ensures) (small_edge c.args.p c.args.q c.args.r c.requires)

pub divide-requires-3 : goal.divide-requires-3
divide-requires-3 c =
    let e = c.join-tip.ensures ∙ ap (λ (f : Face). joined f c.args.r.on) c.join-edge.ensures in
    subst Small (sym e) (small_tip c.args.p c.args.q c.args.r c.requires)
