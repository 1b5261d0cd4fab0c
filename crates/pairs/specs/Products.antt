-- Sums of three products, with a row of a matrix and with an axis.
use Rattle.std.specs.Prelude.{ℕ, ◌+◌, ◌*◌, ◌≤◌, ℤ, pos, ◌+ℤ◌, ◌-ℤ◌, ◌*ℤ◌, unsigned_abs}
use Rattle.integers.proofs.Order.{small_mul}
use Rattle.integers.proofs.Fits.{sum3_small}
use Rattle.hull.specs.declared.corner.Corner.{Corner}
use Rattle.placement.specs.declared.parts.Placement.{Placement}
use Rattle.placement.specs.Parts.{Row}
use Rattle.placement.specs.Units.{W, shift_unit}
use Rattle.pairs.specs.Records.{Axis}

-- the product of two triples
abbrev pub dot : ℤ → ℤ → ℤ → ℤ → ℤ → ℤ → ℤ
dot a b c x y z = a *ℤ x +ℤ b *ℤ y +ℤ c *ℤ z

-- its size
pub dot_small : (m n : ℕ) (a b c x y z : ℤ) → unsigned_abs a ≤ m → unsigned_abs b ≤ m → unsigned_abs c ≤ m → unsigned_abs x ≤ n → unsigned_abs y ≤ n → unsigned_abs z ≤ n → unsigned_abs (dot a b c x y z) ≤ m * n + m * n + m * n
dot_small m n a b c x y z ha hb hc hx hy hz =
    sum3_small (a *ℤ x) (b *ℤ y) (c *ℤ z) (m * n) (small_mul a x m n ha hx) (small_mul b y m n hb hy) (small_mul c z m n hc hz)

-- a coordinate of the image of a corner, from a row of the matrix and an entry of the shift
abbrev pub image : Row → ℤ → Corner → ℤ
image r t v = dot r.x r.y r.z v.x v.y v.z +ℤ pos shift_unit *ℤ t

-- the product of an axis and a triple
abbrev pub along : Axis → ℤ → ℤ → ℤ → ℤ
along l x y z = dot l.x l.y l.z x y z

-- L·X(v), for a corner v of the moved piece
abbrev pub image_along : Placement → Axis → Corner → ℤ
image_along p l v = along l (image p.x p.shift.x v) (image p.y p.shift.y v) (image p.z p.shift.z v)

-- W × L·w, for a corner w of the standing piece
abbrev pub corner_along : Axis → Corner → ℤ
corner_along l w = pos W *ℤ along l w.x w.y w.z

-- L·T
abbrev pub shift_along : Placement → Axis → ℤ
shift_along p l = along l p.shift.x p.shift.y p.shift.z

-- how far a corner v of the moved piece and a corner w of the standing one are apart along an axis
abbrev pub apart : Placement → Axis → Corner → Corner → ℕ
apart p l v w = unsigned_abs (image_along p l v -ℤ corner_along l w)
