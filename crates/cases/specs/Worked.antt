-- The worked cases, as one fact.
use Rattle.std.specs.Prelude.{◌≡◌, ℕ, T, List, [], ◌∷◌, ℤ, pos, negsuc, nat_le, unsigned_abs}
use Rattle.std.proofs.Common.{leb→le}
use Rattle.integers.specs.Rounding.{div_down}
use Rattle.pairs.specs.Units.{axis_unit}
use Rattle.hull.specs.declared.corner.Corner.{Corner}
use Rattle.hull.specs.declared.direction.Direction.{Direction}
use Rattle.hull.specs.Units.{corner_limit, direction_limit}
use Rattle.hull.specs.Faces.{face}
use Rattle.hull.specs.Weights.{weight, many_weighting}
use Rattle.hull.specs.Directions.{direction}
use Rattle.support.specs.Supports.{kept, rounded}
use Rattle.faced.specs.Hulls.{box_begun, box_grown, box_reach}
use Rattle.placement.specs.Units.{W, shift_limit}
use Rattle.placement.specs.declared.parts.Placement.{Placement}
use Rattle.placement.specs.Parts.{triple}
use Rattle.book.specs.declared.item.Facet.{Facet}
use Rattle.book.specs.Trees.{leaf}
use Rattle.walks.specs.Walks.{Walk}
use Rattle.walks.specs.Comparisons.{PartedItems}
use Rattle.ball.specs.declared.kind.BallHull.{BallHull}
use Rattle.ball.specs.Balls.{ball_begun, ball_grown, reach_of_ball}

-- a corner of numbers that are seen to be in range
abbrev pub corner : (x y z : ℤ) → T (nat_le (unsigned_abs x) corner_limit) → T (nat_le (unsigned_abs y) corner_limit) → T (nat_le (unsigned_abs z) corner_limit) → Corner
corner x y z a b c = record { x = x; y = y; z = z; x_in = leb→le (unsigned_abs x) corner_limit a; y_in = leb→le (unsigned_abs y) corner_limit b; z_in = leb→le (unsigned_abs z) corner_limit c }

abbrev pub origin : Corner
origin = corner (pos 0) (pos 0) (pos 0) tt tt tt

-- the ball of the origin, a corner and the origin again
abbrev pub ball_with : Corner → BallHull
ball_with p = ball_grown (ball_grown (ball_begun origin) p) origin

-- (0, 0, W)
abbrev pub upward : Direction
upward = direction (pos 0) (pos 0) (pos 1048576) (leb→le 0 direction_limit tt) (leb→le 0 direction_limit tt) (leb→le 1048576 direction_limit tt)

-- the facets of the whole case, one above the other
abbrev pub flat : (z : ℤ) → T (nat_le (unsigned_abs z) corner_limit) → Facet
flat z h = record { a = corner (pos 0) (pos 0) z tt tt h; b = corner (pos 40) (pos 0) z tt tt h; c = corner (pos 0) (pos 40) z tt tt h }

-- the placement that turns nothing and lifts by t
abbrev pub lifted : (t : ℕ) → T (nat_le t shift_limit) → Placement
lifted t h = record {
  x = triple (pos W) (pos 0) (pos 0) tt tt tt;
  y = triple (pos 0) (pos W) (pos 0) tt tt tt;
  z = triple (pos 0) (pos 0) (pos W) tt tt tt;
  shift = triple (pos 0) (pos 0) (pos t) tt tt h;
}

-- with boxes, and the moved facet lifted by t, the walk lists these pairs after one test
abbrev pub Lifted : (t : ℕ) → T (nat_le t shift_limit) → List (ℕ × ℕ) → Type 0
Lifted t h pairs = Walk (PartedItems box_begun box_grown box_reach (lifted t h)) (leaf 0 (flat (pos 0) tt)) (leaf 0 (flat (pos 9) tt)) pairs 1

-- the worked cases of hulls and axes
pub record Worked : Type 0 where
  -- weight 100 gives n = 2 at g = 5, and n = 1 at g = -5
  pub weight_100 : (rounded 100 (pos 5) ≡ 2) × (rounded 100 (negsuc 4) ≡ 1)
  -- weight 128 gives 2 at both
  pub weight_128 : (rounded 128 (pos 5) ≡ 2) × (rounded 128 (negsuc 4) ≡ 2)
  -- d = 9 gives g = 3, and d = -9 gives -2
  pub products : (kept (pos 9) ≡ pos 3) × (kept (negsuc 8) ≡ negsuc 1)
  -- (5, -3, 1) has the weights 2, 2 and 1 on (1, 0, 0), (1, -1, 0) and (1, -1, 1)
  pub weights : many_weighting (pos 5) (negsuc 2) (pos 1) ≡ weight 2 (face (pos 1) (pos 0) (pos 0)) ∷ weight 2 (face (pos 1) (negsuc 0) (pos 0)) ∷ weight 1 (face (pos 1) (negsuc 0) (pos 1)) ∷ []
  -- with (3, 4, 0) the ball's radius is 5, and its reach along (0, 0, W) 20,480
  pub radius_5 : (ball_with (corner (pos 3) (pos 4) (pos 0) tt tt tt)).radius ≡ 5
  pub reach_20480 : reach_of_ball (ball_with (corner (pos 3) (pos 4) (pos 0) tt tt tt)) upward ≡ pos 20480
  -- with (1, 1, 0) its radius is 2
  pub radius_2 : (ball_with (corner (pos 1) (pos 1) (pos 0) tt tt tt)).radius ≡ 2
  -- an axis entry from -1 is -1, and from 4,095 it is 0
  pub axis_entries : (div_down (negsuc 0) axis_unit ≡ negsuc 0) × (div_down (pos 4095) axis_unit ≡ pos 0)

-- the worked case of a job
pub record Lifts : Type 0 where
  -- the whole case: too low, within reach, and too high; and a lift with which the pair is still listed
  pub lift_28672 : Lifted 28672 tt []
  pub lift_32768 : Lifted 32768 tt ((0, 0) ∷ [])
  pub lift_53248 : Lifted 53248 tt []
  pub lift_49152 : Lifted 49152 tt ((0, 0) ∷ [])
