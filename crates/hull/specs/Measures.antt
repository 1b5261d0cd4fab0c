-- What the laws of a hull speak of.
use Rattle.std.specs.Prelude.{ℕ, ◌+◌, ◌*◌, ◌≤◌, List, ℤ, pos, ◌+ℤ◌, ◌-ℤ◌, ◌*ℤ◌, ◌≤ℤ◌, unsigned_abs}
use Rattle.std.specs.List.{AllByRecursion}
use Rattle.hull.specs.declared.corner.Corner.{Corner}
use Rattle.hull.specs.declared.direction.Direction.{Direction}
use Rattle.hull.specs.Units.{reach_unit, slack, rounding}

-- u·v
abbrev pub along : Direction → Corner → ℤ
along u v = u.x *ℤ v.x +ℤ u.y *ℤ v.y +ℤ u.z *ℤ v.z

-- |u|
abbrev pub size : Direction → ℕ
size u = unsigned_abs u.x + unsigned_abs u.y + unsigned_abs u.z

-- v and w differ by at most s in each coordinate
pub record Near (s : ℕ) (v w : Corner) : Type 0 where
  pub near_x : unsigned_abs (v.x -ℤ w.x) ≤ s
  pub near_y : unsigned_abs (v.y -ℤ w.y) ≤ s
  pub near_z : unsigned_abs (v.z -ℤ w.z) ≤ s

-- no two corners of the list differ by more than s in a coordinate: the spread of the list is at most s
abbrev pub Spread : ℕ → List Corner → Type 0
Spread s c = AllByRecursion (λ v. AllByRecursion (λ w. Near s v w) c) c

-- first law: u·v ≤ 256 × reach, for each corner v of the list
abbrev pub Covers : ℤ → Direction → List Corner → Type 0
Covers reach u c = AllByRecursion (λ v. along u v ≤ℤ (pos reach_unit *ℤ reach)) c

-- second law: 256 × reach ≤ u·v + 3 × |u| × (s + 8) + 16,777,216, for each corner v of the list, where the corners spread by at most s
abbrev pub Tight : ℤ → Direction → ℕ → List Corner → Type 0
Tight reach u s c = AllByRecursion (λ v. (pos reach_unit *ℤ reach) ≤ℤ (along u v +ℤ pos (3 * (size u * (s + 8)) + slack))) c

-- unrounded ≤ 256 × reach ≤ unrounded + 3 × |u| + 12,386,304
pub record Rounds (reach unrounded : ℤ) (u : Direction) : Type 0 where
  pub over : unrounded ≤ℤ (pos reach_unit *ℤ reach)
  pub under : (pos reach_unit *ℤ reach) ≤ℤ (unrounded +ℤ pos (3 * size u + rounding))
