-- A ball about the first corner of a list.
use Rattle.std.specs.Prelude.{◌≡◌, ℕ, ◌*◌, max, List, [], ◌∷◌, ℤ, pos, ◌+ℤ◌, ◌-ℤ◌}
use Rattle.integers.specs.Roots.{root_up}
use Rattle.integers.specs.Rounding.{div_up}
use Rattle.hull.specs.declared.corner.Corner.{Corner}
use Rattle.hull.specs.declared.direction.Direction.{Direction}
use Rattle.hull.specs.Units.{reach_unit, squared}
use Rattle.hull.specs.Measures.{along}
use Rattle.ball.specs.declared.kind.BallHull.{BallHull}

-- the square of the distance of two corners
abbrev pub apart : Corner → Corner → ℕ
apart v w = squared (v.x -ℤ w.x) (v.y -ℤ w.y) (v.z -ℤ w.z)

-- the distance of two corners, rounded up
abbrev pub distance_up : Corner → Corner → ℕ
distance_up v w = root_up (apart v w)

-- the ball of one corner
abbrev pub ball_begun : Corner → BallHull
ball_begun p = record { centre = p; radius = 0 }

-- the ball with one more corner: the centre stays
abbrev pub ball_grown : BallHull → Corner → BallHull
ball_grown h p = record { centre = h.centre; radius = max h.radius (distance_up p h.centre) }

-- how far a ball reaches along a direction: (u·z + r × q) / 256 rounded up, where q is the root of u·u rounded up
abbrev pub reach_of_ball : BallHull → Direction → ℤ
reach_of_ball h u = div_up (along u h.centre +ℤ pos (h.radius * root_up (squared u.x u.y u.z))) reach_unit

-- the largest distance of the corners of a list to z, each rounded up
abbrev pub farthest : Corner → List Corner → ℕ
farthest z [] = 0
farthest z (v ∷ c) = max (distance_up v z) (farthest z c)

-- the list is not empty, its first corner is the centre, and the radius is the largest distance to that
abbrev pub BallFits : BallHull → List Corner → Type 0
BallFits h [] = ⊥
BallFits h (z ∷ c) = (h.centre ≡ z) × (h.radius ≡ farthest z (z ∷ c))
