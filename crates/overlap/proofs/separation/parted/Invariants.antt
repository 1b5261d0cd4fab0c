use Rattle.std.proofs.Common.{take}
use Rattle.std.specs.List.{AllByRecursion}
use Rattle.pairs.specs.Gaps.{Parts}
use Rattle.overlap.proofs.separation.parted.Given as goal

abbrev pub invariant-loop-axis : goal.invariant-loop-axis
invariant-loop-axis g l =
    AllByRecursion (λ s. Parts (g.H.Hull.reaches l.moved) (g.H.Hull.reaches l.standing) s → ⊥) (take l.axis-index l.axes.each)
