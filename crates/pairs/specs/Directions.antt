-- The directions in which hulls are asked along an axis.
use Rattle.std.specs.Prelude.{ℕ, ◌+◌, ◌*◌, ◌≤◌, ℤ, pos, ◌*ℤ◌, neg_ℤ, unsigned_abs}
use Rattle.std.proofs.Common.{arith, lit≤}
use Rattle.integers.proofs.Order.{small_mul, small_neg}
use Rattle.hull.specs.declared.direction.Direction.{Direction}
use Rattle.hull.specs.Directions.{direction}
use Rattle.hull.specs.Measures.{size}
use Rattle.hull.specs.Units.{direction_limit}
use Rattle.placement.specs.declared.parts.Placement.{Placement}
use Rattle.placement.specs.Units.{W, matrix_limit}
use Rattle.pairs.specs.Records.{Axis}
use Rattle.pairs.specs.declared.axis.SeparatingAxis.{SeparatingAxis}
use Rattle.pairs.specs.Units.{axis_limit}
use Rattle.pairs.specs.Products.{along, dot_small, shift_along}

pub column_small : (l : Axis) (x y z : ℤ) → unsigned_abs x ≤ matrix_limit → unsigned_abs y ≤ matrix_limit → unsigned_abs z ≤ matrix_limit → unsigned_abs (along l x y z) ≤ direction_limit
column_small l x y z hx hy hz = dot_small axis_limit matrix_limit l.x l.y l.z x y z l.x_in l.y_in l.z_in hx hy hz

-- u, the transpose of the matrix times the axis: its products with the columns
unfoldable pub moved_direction : Placement → Axis → Direction
moved_direction p l =
    direction (along l p.x.x p.y.x p.z.x) (along l p.x.y p.y.y p.z.y) (along l p.x.z p.y.z p.z.z)
    (column_small l p.x.x p.y.x p.z.x p.x.x_in p.y.x_in p.z.x_in)
    (column_small l p.x.y p.y.y p.z.y p.x.y_in p.y.y_in p.z.y_in)
    (column_small l p.x.z p.y.z p.z.z p.x.z_in p.y.z_in p.z.z_in)

pub times_small : (z : ℤ) → unsigned_abs z ≤ axis_limit → unsigned_abs (pos W *ℤ z) ≤ direction_limit
times_small z h = let k = small_mul (pos W) z W axis_limit (lit≤ tt) h in omega arith

-- W L, W times the axis
unfoldable pub standing_direction : Axis → Direction
standing_direction l = direction (pos W *ℤ l.x) (pos W *ℤ l.y) (pos W *ℤ l.z) (times_small l.x l.x_in) (times_small l.y l.y_in) (times_small l.z l.z_in)

-- the direction the other way
unfoldable pub opposite : Direction → Direction
opposite u =
    direction (neg_ℤ u.x) (neg_ℤ u.y) (neg_ℤ u.z) (small_neg u.x direction_limit u.x_in) (small_neg u.y direction_limit u.y_in)
    (small_neg u.z direction_limit u.z_in)

-- U
abbrev pub moved_size : Placement → Axis → ℕ
moved_size p l = size (moved_direction p l)

-- V
abbrev pub standing_size : Axis → ℕ
standing_size l = W * (unsigned_abs l.x + unsigned_abs l.y + unsigned_abs l.z)

-- what a test along an axis needs, where a unit of the shift counts for n
unfoldable pub separating : ℕ → Placement → Axis → SeparatingAxis
separating n p l = record {
  moved_up = moved_direction p l;
  moved_down = opposite (moved_direction p l);
  standing_up = standing_direction l;
  standing_down = opposite (standing_direction l);
  shift = pos n *ℤ shift_along p l;
}
