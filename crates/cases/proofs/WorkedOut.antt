-- The worked cases are worked out.
use Rattle.std.proofs.Common.{◌≡◌, ℕ, ◌*◌, max, [], ◌∷◌, pos, ◌+ℤ◌, sym, refl, ap₂, arith, lit<, lit≤}
use Rattle.integers.specs.Roots.{root_up}
use Rattle.integers.specs.Rounding.{div_up}
use Rattle.integers.proofs.Roots.{root_is}
use Rattle.hull.specs.Directions.{direction}
use Rattle.hull.specs.Faces.{place}
use Rattle.cases.specs.Worked.{Lifts, corner, ball_with, lifted, Lifted, Worked}
use Rattle.pairs.specs.Axes.{axes_under, as_axis, turned}
use Rattle.pairs.specs.Directions.{separating, moved_direction, standing_direction, opposite}
use Rattle.walks.specs.Walks.{apart, facets}
use Rattle.walks.proofs.Deciding.{parted?, parted_is, parted_not}
use Rattle.support.specs.Supports.{reach_on, supports, raised}

-- roots that the cases need
root_0 : root_up 0 ≡ 0
root_0 = sym (root_is 0 0 (lit≤ tt) (λ h. absurd (omega arith)))

root_25 : root_up 25 ≡ 5
root_25 = sym (root_is 25 5 (lit≤ tt) (λ h. lit< tt))

root_2 : root_up 2 ≡ 2
root_2 = sym (root_is 2 2 (lit≤ tt) (λ h. lit< tt))

root_of_square : root_up 1099511627776 ≡ 1048576
root_of_square = sym (root_is 1099511627776 1048576 (lit≤ tt) (λ h. lit< tt))

radius_5 : (ball_with (corner (pos 3) (pos 4) (pos 0) tt tt tt)).radius ≡ 5
radius_5 = ap₂ (λ (m n : ℕ). max (max 0 m) n) root_25 root_0

-- the whole case
lift_28672 : Lifted 28672 tt []
unfolding parted? axes_under as_axis turned separating moved_direction standing_direction opposite direction place reach_on supports raised
lift_28672 = apart (parted_is _ _ (lifted 28672 tt) refl)

lift_32768 : Lifted 32768 tt ((0, 0) ∷ [])
unfolding parted? axes_under as_axis turned separating moved_direction standing_direction opposite direction place reach_on supports raised
lift_32768 = facets (parted_not _ _ (lifted 32768 tt) refl)

lift_53248 : Lifted 53248 tt []
unfolding parted? axes_under as_axis turned separating moved_direction standing_direction opposite direction place reach_on supports raised
lift_53248 = apart (parted_is _ _ (lifted 53248 tt) refl)

lift_49152 : Lifted 49152 tt ((0, 0) ∷ [])
unfolding parted? axes_under as_axis turned separating moved_direction standing_direction opposite direction place reach_on supports raised
lift_49152 = facets (parted_not _ _ (lifted 49152 tt) refl)

pub worked : Worked
unfolding direction
worked = record {
  weight_100 = (refl, refl);
  weight_128 = (refl, refl);
  products = (refl, refl);
  weights = refl;
  radius_5 = radius_5;
  reach_20480 = ap₂ (λ (r q : ℕ). div_up (pos 0 +ℤ pos (r * q)) 256) radius_5 root_of_square;
  radius_2 = ap₂ (λ (m n : ℕ). max (max 0 m) n) root_2 root_0;
  axis_entries = (refl, refl);
}

pub lifts : Lifts
lifts = record {
  lift_28672 = lift_28672;
  lift_32768 = lift_32768;
  lift_53248 = lift_53248;
  lift_49152 = lift_49152;
}
