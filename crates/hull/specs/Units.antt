-- The numbers of the rules, each in one place.
use Rattle.std.specs.Prelude.{ℕ, ◌+◌, ◌-◌, ◌*◌, ◌≤◌, ℤ, unsigned_abs}

-- an entry of a corner is at most this in size, in ticks
abbrev pub corner_limit : ℕ
corner_limit = 32767

-- an entry of a direction is at most this in size
abbrev pub direction_limit : ℕ
direction_limit = 2415919104

-- a support value counts in units of so many ticks
abbrev pub support_unit : ℕ
support_unit = 4

-- a weight on a face is divided by this
abbrev pub weight_unit : ℕ
weight_unit = 64

-- so many times a reach is a product of a direction and a corner
abbrev pub reach_unit : ℕ
reach_unit = support_unit * weight_unit

-- by how much so many times a reach may pass such a product, besides what grows with the direction and the spread
abbrev pub slack : ℕ
slack = 16777216

-- a support value is at most this in size, for each entry of its face that is not 0
abbrev pub support_limit : ℕ
support_limit = 8192

-- by how much so many times a reach may pass the unrounded reach, besides what grows with the direction: a rounded weight is up to
-- weight_unit - 1 off, and the three faces of a direction have at most six entries that are not 0
abbrev pub rounding : ℕ
rounding = support_unit * (weight_unit - 1) * (6 * support_limit)

-- three numbers, none beyond a limit
pub record Within (n : ℕ) (x y z : ℤ) : Type 0 where
  pub in_x : unsigned_abs x ≤ n
  pub in_y : unsigned_abs y ≤ n
  pub in_z : unsigned_abs z ≤ n

-- the sum of the squares of three numbers
abbrev pub squared : ℤ → ℤ → ℤ → ℕ
squared x y z = unsigned_abs x * unsigned_abs x + unsigned_abs y * unsigned_abs y + unsigned_abs z * unsigned_abs z
