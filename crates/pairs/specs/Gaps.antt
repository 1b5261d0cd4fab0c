-- The gaps between two hulls along an axis, from the reaches f of the moved hull and g of the standing one.
use Rattle.std.specs.Prelude.{◌≡◌, ℕ, ◌<◌, ◌⊎◌, List, map, ℤ, pos, ◌+ℤ◌, ◌-ℤ◌, neg_ℤ, ◌≤ℤ◌, ◌<ℤ◌}
use Rattle.std.specs.List.{ContainsAt as Has}
use Rattle.hull.specs.declared.direction.Direction.{Direction}
use Rattle.placement.specs.declared.parts.Placement.{Placement}
use Rattle.placement.specs.Units.{shift_unit}
use Rattle.pairs.specs.Records.{Axis}
use Rattle.pairs.specs.declared.axis.SeparatingAxis.{SeparatingAxis}
use Rattle.pairs.specs.Units.{axis_count, shift_ratio}
use Rattle.pairs.specs.Axes.{axes_under, axis_at}
use Rattle.pairs.specs.Directions.{separating}

-- the room between the standing hull's upper end and the moved hull's lower end
abbrev pub gap_over_standing : (Direction → ℤ) → (Direction → ℤ) → SeparatingAxis → ℤ
gap_over_standing f g s = neg_ℤ (f s.moved_down) +ℤ s.shift -ℤ g s.standing_up

-- the room between the moved hull's upper end and the standing hull's lower end
abbrev pub gap_over_moved : (Direction → ℤ) → (Direction → ℤ) → SeparatingAxis → ℤ
gap_over_moved f g s = neg_ℤ (g s.standing_down) -ℤ f s.moved_up -ℤ s.shift

-- one of the two gaps is above 0
abbrev pub Parts : (Direction → ℤ) → (Direction → ℤ) → SeparatingAxis → Type 0
Parts f g s = (pos 0 <ℤ gap_over_standing f g s) ⊎ (pos 0 <ℤ gap_over_moved f g s)

-- neither is above n
pub record GapsWithin (n : ℕ) (f g : Direction → ℤ) (s : SeparatingAxis) : Type 0 where
  pub first : gap_over_standing f g s ≤ℤ pos n
  pub second : gap_over_moved f g s ≤ℤ pos n

-- an axis as hulls are tested along it: the shift counts in the unit of a reach
abbrev pub rounded_axis : Placement → Axis → SeparatingAxis
rounded_axis = separating shift_ratio

-- an axis as unrounded hulls are tested along it: the shift counts in the unit of an image
abbrev pub unrounded_axis : Placement → Axis → SeparatingAxis
unrounded_axis = separating shift_unit

-- all axes of a placement, as hulls are tested along them
unfoldable pub separating_axes : Placement → List SeparatingAxis
separating_axes p = map (rounded_axis p) (axes_under p)

-- the two gaps along the axis at a place of the placement's list
pub record GapsAt (f g : Direction → ℤ) (p : Placement) (i : ℕ) (first second : ℤ) : Type 0 where
  pub there : i < axis_count
  pub first_is : first ≡ gap_over_standing f g (rounded_axis p (axis_at p i))
  pub second_is : second ≡ gap_over_moved f g (rounded_axis p (axis_at p i))

-- some axis of the placement parts the hulls
unfoldable pub Parted : (Direction → ℤ) → (Direction → ℤ) → Placement → Type 0
Parted f g p = (l : Axis) × Has (axes_under p) l × Parts f g (rounded_axis p l)
