-- The numbers of the rules on axes, each in one place.
use Rattle.std.specs.Prelude.{ℕ, ◌*◌, ◌/◌}
use Rattle.hull.specs.Units.{reach_unit}
use Rattle.placement.specs.Units.{shift_unit}

-- there are so many fixed axes
abbrev pub fixed_count : ℕ
fixed_count = 13

-- a placement has so many axes: the fixed ones, and each of them turned
abbrev pub axis_count : ℕ
axis_count = 2 * fixed_count

-- an entry of a fixed axis is at most this in size
abbrev pub fixed_limit : ℕ
fixed_limit = 1

-- an entry of an axis is at most this in size
abbrev pub axis_limit : ℕ
axis_limit = 768

-- the matrix times a fixed axis is divided by this
abbrev pub axis_unit : ℕ
axis_unit = 4096

-- a unit of a shift is so many units of a reach
abbrev pub shift_ratio : ℕ
shift_ratio = shift_unit / reach_unit
