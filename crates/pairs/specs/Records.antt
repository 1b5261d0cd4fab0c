-- The two kinds of axis by their names.
use Rattle.pairs.specs.declared.axis.BoundedAxis.{BoundedAxis}
use Rattle.pairs.specs.Units.{axis_limit, fixed_limit}

-- an axis of a placement
abbrev pub Axis : Type 0
Axis = BoundedAxis axis_limit

-- an axis that is the same under every placement
abbrev pub FixedAxis : Type 0
FixedAxis = BoundedAxis fixed_limit
