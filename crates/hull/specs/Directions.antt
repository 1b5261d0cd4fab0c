-- The direction with given entries.
use Rattle.std.specs.Prelude.{◌≤◌, map, ℤ, unsigned_abs, refl}
use Rattle.integers.specs.Roots.{root_up}
use Rattle.hull.specs.declared.direction.Direction.{Direction}
use Rattle.hull.specs.Units.{direction_limit, squared}
use Rattle.hull.specs.Weights.{box_weighting, many_weighting, divided}

unfoldable pub direction : (x y z : ℤ) → unsigned_abs x ≤ direction_limit → unsigned_abs y ≤ direction_limit → unsigned_abs z ≤ direction_limit → Direction
direction x y z in_x in_y in_z = record {
  x = x;
  y = y;
  z = z;
  box_weights = map divided (box_weighting x y z);
  many_weights = map divided (many_weighting x y z);
  length = root_up (squared x y z);
  x_in = in_x;
  y_in = in_y;
  z_in = in_z;
  on_box = refl;
  on_many = refl;
  as_long = refl;
}
