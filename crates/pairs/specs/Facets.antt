-- Facets, and when two of them share a point under a placement.
use Rattle.std.specs.Prelude.{◌≡◌, ℕ, ◌+◌, ◌<◌, List, [], ◌∷◌, ℤ, pos, ◌*ℤ◌}
use Rattle.hull.specs.declared.corner.Corner.{Corner}
use Rattle.placement.specs.declared.parts.Placement.{Placement}
use Rattle.placement.specs.Units.{W}
use Rattle.pairs.specs.Products.{dot, image}

-- three corners
pub record Facet : Type 0 where
  pub v0 : Corner
  pub v1 : Corner
  pub v2 : Corner

-- them in a list
abbrev pub corners : Facet → List Corner
corners f = f.v0 ∷ f.v1 ∷ f.v2 ∷ []

-- weights of a point in each of two facets: none negative, and not all 0
pub record Weights : Type 0 where
  pub a0 : ℕ
  pub a1 : ℕ
  pub a2 : ℕ
  pub b0 : ℕ
  pub b1 : ℕ
  pub b2 : ℕ
  pub some_a : 0 < a0 + a1 + a2
  pub some_b : 0 < b0 + b1 + b2

-- b × (a0 x0 + a1 x1 + a2 x2) = a × W × (b0 y0 + b1 y1 + b2 y2), with a and b the sums of the weights
abbrev pub Meets : Weights → ℤ → ℤ → ℤ → ℤ → ℤ → ℤ → Type 0
Meets m x0 x1 x2 y0 y1 y2 =
    pos (m.b0 + m.b1 + m.b2) *ℤ dot (pos m.a0) (pos m.a1) (pos m.a2) x0 x1 x2 ≡ pos (m.a0 + m.a1 + m.a2) *ℤ pos W *ℤ dot (pos m.b0) (pos m.b1) (pos m.b2) y0 y1 y2

-- a facet v of the moved piece and a facet w of the standing one have a point in common: it has such weights in each coordinate
pub record SharesPoint (p : Placement) (v w : Facet) : Type 0 where
  pub weights : Weights
  pub in_x : Meets weights (image p.x p.shift.x v.v0) (image p.x p.shift.x v.v1) (image p.x p.shift.x v.v2) w.v0.x w.v1.x w.v2.x
  pub in_y : Meets weights (image p.y p.shift.y v.v0) (image p.y p.shift.y v.v1) (image p.y p.shift.y v.v2) w.v0.y w.v1.y w.v2.y
  pub in_z : Meets weights (image p.z p.shift.z v.v0) (image p.z p.shift.z v.v1) (image p.z p.shift.z v.v2) w.v0.z w.v1.z w.v2.z
