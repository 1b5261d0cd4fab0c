-- Hulls with faces, each by the weights that it gives to directions: the box and the 26-faced hull.
use Rattle.std.specs.Prelude.{ℕ, List, take, ℤ}
use Rattle.hull.specs.declared.corner.Corner.{Corner}
use Rattle.hull.specs.declared.direction.Direction.{Direction}
use Rattle.hull.specs.declared.face.Weight.{Weight}
use Rattle.hull.specs.Weights.{box_weighting, many_weighting}
use Rattle.support.specs.Supports.{supports, raised, Supports, reach_on, unrounded_on}
use Rattle.faced.specs.declared.hulls.FacedHull.{FacedHull}

-- the hull of one corner, with the first n faces
abbrev pub begun_on : (n : ℕ) → Corner → FacedHull n
begun_on n p = record { supports = take n (supports p) }

-- a hull with one more corner
abbrev pub grown_on : (n : ℕ) → FacedHull n → Corner → FacedHull n
grown_on n h p = record { supports = raised h.supports p }

-- how far a hull reaches
abbrev pub reach_by : (n : ℕ) → (Direction → List Weight) → FacedHull n → Direction → ℤ
reach_by n weights h u = reach_on (weights u) h.supports

-- the unrounded reach of the hull of a list
abbrev pub unrounded_by : (Direction → List Weight) → List Corner → Direction → ℤ
unrounded_by weights c u = unrounded_on (weights u) c

-- which lists a hull fits
abbrev pub FitsOn : (n : ℕ) → FacedHull n → List Corner → Type 0
FitsOn n h c = Supports n h.supports c

-- the weights on the axes
abbrev pub on_box : Direction → List Weight
on_box u = box_weighting u.x u.y u.z

-- the weights on sums of axes
abbrev pub on_many : Direction → List Weight
on_many u = many_weighting u.x u.y u.z

-- the box: the first six faces, and the weights on the axes
abbrev pub box_begun : Corner → FacedHull 6
box_begun = begun_on 6

abbrev pub box_grown : FacedHull 6 → Corner → FacedHull 6
box_grown = grown_on 6

abbrev pub box_reach : FacedHull 6 → Direction → ℤ
box_reach = reach_by 6 on_box

abbrev pub box_unrounded : List Corner → Direction → ℤ
box_unrounded = unrounded_by on_box

abbrev pub BoxFits : FacedHull 6 → List Corner → Type 0
BoxFits = FitsOn 6

-- the 26-faced hull: all faces, and the weights on sums of axes
abbrev pub many_begun : Corner → FacedHull 26
many_begun = begun_on 26

abbrev pub many_grown : FacedHull 26 → Corner → FacedHull 26
many_grown = grown_on 26

abbrev pub many_reach : FacedHull 26 → Direction → ℤ
many_reach = reach_by 26 on_many

abbrev pub many_unrounded : List Corner → Direction → ℤ
many_unrounded = unrounded_by on_many

abbrev pub ManyFits : FacedHull 26 → List Corner → Type 0
ManyFits = FitsOn 26
