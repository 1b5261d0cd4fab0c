-- Worked examples: a turn of about 53 degrees, and its axis 15.
use Rattle.std.proofs.Common.{◌≡◌, pos, negsuc, refl}
use Rattle.hull.specs.Directions.{direction}
use Rattle.placement.specs.declared.parts.Placement.{Placement}
use Rattle.placement.specs.Parts.{triple}
use Rattle.pairs.specs.Records.{Axis}
use Rattle.pairs.specs.Products.{shift_along}
use Rattle.pairs.specs.Axes.{axis_at, axes_under, turned}
use Rattle.pairs.specs.Directions.{moved_direction, moved_size, standing_size}

abbrev p : Placement
p = record {
  x = triple (pos 629146) (negsuc 838860) (pos 0) tt tt tt;
  y = triple (pos 838861) (pos 629146) (pos 0) tt tt tt;
  z = triple (pos 0) (pos 0) (pos 1048576) tt tt tt;
  shift = triple (negsuc 179999) (negsuc 2047) (pos 0) tt tt tt;
}

-- L = (-205, 153, 0)
abbrev l : Axis
l = axis_at p 14

axis_entries : (l.x ≡ negsuc 204) × (l.y ≡ pos 153) × (l.z ≡ pos 0)
unfolding axis_at axes_under turned
axis_entries = (refl, refl, refl)

-- u = (-629197, 268225843, 0)
direction_entries : ((moved_direction p l).x ≡ negsuc 629196) × ((moved_direction p l).y ≡ pos 268225843) × ((moved_direction p l).z ≡ pos 0)
unfolding axis_at axes_under turned moved_direction direction
direction_entries = (refl, refl, refl)

-- U and V
sizes : (moved_size p l ≡ 268855040) × (standing_size l ≡ 375390208)
unfolding axis_at axes_under turned moved_direction direction
sizes = (refl, refl)

-- L·T
shift_product : shift_along p l ≡ pos 36586656
unfolding axis_at axes_under turned
shift_product = refl
