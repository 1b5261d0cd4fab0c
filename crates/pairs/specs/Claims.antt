-- What holds of one pair of hulls of any kind under a placement: h is the moved one and k the standing one, and each is given by the
-- lists that it fits and by its reaches.
use Rattle.std.specs.Prelude.{ℕ, ◌+◌, ◌*◌, ◌≤◌, List, ℤ}
use Rattle.std.specs.List.{ContainsAt as Has, AllByRecursion}
use Rattle.hull.specs.declared.corner.Corner.{Corner}
use Rattle.hull.specs.declared.direction.Direction.{Direction}
use Rattle.hull.specs.Measures.{Spread}
use Rattle.hull.specs.Units.{slack, rounding}
use Rattle.placement.specs.declared.parts.Placement.{Placement}
use Rattle.pairs.specs.Records.{Axis}
use Rattle.pairs.specs.Products.{apart}
use Rattle.pairs.specs.Axes.{axes_under}
use Rattle.pairs.specs.Directions.{moved_size, standing_size}
use Rattle.pairs.specs.Gaps.{Parts, GapsWithin, rounded_axis, unrounded_axis}
use Rattle.pairs.specs.Facets.{Facet, corners, SharesPoint}

module _ (p : Placement) (fits_h fits_k : List Corner → Type 0) where
  -- nothing that touches is parted: hulls of lists that have the corners of facets which share a point
  unfoldable pub TouchingUnparted : Type 0 → Type 0
  TouchingUnparted parted = (c d : List Corner) → fits_h c → fits_k d → (v w : Facet) → AllByRecursion (Has c) (corners v) → AllByRecursion (Has d) (corners w) → SharesPoint p v w → parted → ⊥

  -- what is not parted is near: every corner of the one list and every corner of the other, along each axis
  unfoldable pub UnpartedNear : Type 0 → Type 0
  UnpartedNear parted = (c d : List Corner) (s t : ℕ) → fits_h c → fits_k d → Spread s c → Spread t d → (parted → ⊥) → AllByRecursion (λ l. AllByRecursion (λ v. AllByRecursion (λ w. apart p l v w ≤ 3 * (moved_size p l * (s + 8)) + 3 * (standing_size l * (t + 8)) + 2 * slack) d) c) (axes_under p)

  -- a kind with faces: an axis that parts the hulls parts the unrounded ones
  unfoldable pub PartedUnrounded : Type 0 → (reaches_h reaches_k : Direction → ℤ) → (List Corner → Direction → ℤ) → Type 0
  PartedUnrounded faced f g unrounded = faced → (c d : List Corner) → fits_h c → fits_k d → (l : Axis) → Parts f g (rounded_axis p l) → Parts (unrounded c) (unrounded d) (unrounded_axis p l)

  -- a kind with faces: the unrounded hulls of what is not parted are near along each axis
  unfoldable pub UnpartedUnroundedNear : Type 0 → (List Corner → Direction → ℤ) → Type 0 → Type 0
  UnpartedUnroundedNear faced unrounded parted = faced → (c d : List Corner) → fits_h c → fits_k d → (parted → ⊥) → AllByRecursion (λ l. GapsWithin (2 * rounding + 3 * (moved_size p l + standing_size l)) (unrounded c) (unrounded d) (unrounded_axis p l)) (axes_under p)
