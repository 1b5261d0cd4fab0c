-- Axes are the same where their entries are.
use Rattle.std.proofs.Common.{◌≡◌, ℕ}
use Rattle.hull.proofs.Same.{same_made}
use Rattle.pairs.specs.declared.axis.BoundedAxis.{BoundedAxis}

pub same_axis : {n : ℕ} (l m : BoundedAxis n) → l.x ≡ m.x → l.y ≡ m.y → l.z ≡ m.z → l ≡ m
same_axis {n = n} l m ex ey ez =
    same_made n (λ x y z f g h. record { x = x; y = y; z = z; x_in = f; y_in = g; z_in = h }) l.x l.y l.z m.x m.y m.z l.x_in l.y_in l.z_in m.x_in m.y_in m.z_in ex ey ez
