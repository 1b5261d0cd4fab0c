use Rattle.std.proofs.Common.{List, ℤ, ap, ◌∙◌}
use Rattle.support.proofs.Tables.{raised_lowest}
use Rattle.faced.proofs.hulls.FacedHullHull.first.Goals as goal

pub returns : goal.returns
returns g c = ap (λ (h : List ℤ). record { supports = h }) (c.raise.ensures ∙ raised_lowest g.row.N c.args.p)
