-- The 26 axes of a placement: thirteen fixed ones, and the same turned by its matrix.
use Rattle.std.specs.Prelude.{ℕ, ◌*◌, ◌≤◌, T, List, [], ◌∷◌, ◌++◌, map, ℤ, pos, negsuc, nat_le, slice_index_or, unsigned_abs}
use Rattle.std.proofs.Common.{arith, leb→le}
use Rattle.integers.specs.Rounding.{div_down}
use Rattle.placement.specs.declared.parts.Placement.{Placement}
use Rattle.placement.specs.Parts.{Row}
use Rattle.placement.specs.Units.{matrix_limit}
use Rattle.pairs.specs.Records.{Axis, FixedAxis}
use Rattle.pairs.specs.Units.{fixed_limit, axis_limit, axis_unit}
use Rattle.pairs.specs.Products.{dot, dot_small}

-- a fixed axis by its entries, which are seen to be small
abbrev pub fixed : (x y z : ℤ) → T (nat_le (unsigned_abs x) fixed_limit) → T (nat_le (unsigned_abs y) fixed_limit) → T (nat_le (unsigned_abs z) fixed_limit) → FixedAxis
fixed x y z f g h = record { x = x; y = y; z = z; x_in = leb→le (unsigned_abs x) fixed_limit f; y_in = leb→le (unsigned_abs y) fixed_limit g; z_in = leb→le (unsigned_abs z) fixed_limit h }

-- -1
abbrev minus : ℤ
minus = negsuc 0

-- the thirteen fixed axes
abbrev pub fixed_axes : List FixedAxis
fixed_axes =
    fixed (pos 1) (pos 0) (pos 0) tt tt tt
    ∷ fixed (pos 0) (pos 1) (pos 0) tt tt tt
    ∷ fixed (pos 0) (pos 0) (pos 1) tt tt tt
    ∷ fixed (pos 1) (pos 1) (pos 1) tt tt tt
    ∷ fixed (pos 1) (pos 1) minus tt tt tt
    ∷ fixed (pos 1) minus (pos 1) tt tt tt
    ∷ fixed (pos 1) minus minus tt tt tt
    ∷ fixed (pos 1) (pos 1) (pos 0) tt tt tt
    ∷ fixed (pos 1) minus (pos 0) tt tt tt
    ∷ fixed (pos 1) (pos 0) (pos 1) tt tt tt
    ∷ fixed (pos 1) (pos 0) minus tt tt tt
    ∷ fixed (pos 0) (pos 1) (pos 1) tt tt tt
    ∷ fixed (pos 0) (pos 1) minus tt tt tt
    ∷ []

-- no axis, where one is asked for past the end of the list
abbrev pub no_fixed : FixedAxis
no_fixed = fixed (pos 0) (pos 0) (pos 0) tt tt tt

pub fixed_small : (z : ℤ) → unsigned_abs z ≤ fixed_limit → unsigned_abs z ≤ axis_limit
fixed_small z h = omega arith

-- a fixed axis as an axis of a placement
unfoldable pub as_axis : FixedAxis → Axis
as_axis a = record { x = a.x; y = a.y; z = a.z; x_in = fixed_small a.x a.x_in; y_in = fixed_small a.y a.y_in; z_in = fixed_small a.z a.z_in }

-- an entry of a turned axis: that of the matrix times the fixed axis, divided and rounded down
abbrev pub turned_entry : Row → FixedAxis → ℤ
turned_entry r a = div_down (dot a.x a.y a.z r.x r.y r.z) axis_unit

pub down_small : (z : ℤ) → unsigned_abs z ≤ 3 * matrix_limit → unsigned_abs (div_down z axis_unit) ≤ axis_limit
down_small (pos n) h = omega arith
down_small (negsuc n) h = omega arith

pub turned_small : (r : Row) (a : FixedAxis) → unsigned_abs (turned_entry r a) ≤ axis_limit
turned_small r a =
    down_small (dot a.x a.y a.z r.x r.y r.z) (dot_small fixed_limit matrix_limit a.x a.y a.z r.x r.y r.z a.x_in a.y_in a.z_in r.x_in r.y_in r.z_in)

-- the axis that a placement makes of a fixed one
unfoldable pub turned : Placement → FixedAxis → Axis
turned p a = record { x = turned_entry p.x a; y = turned_entry p.y a; z = turned_entry p.z a; x_in = turned_small p.x a; y_in = turned_small p.y a; z_in = turned_small p.z a }

-- no axis, where one is asked for past the end of the list
abbrev pub no_axis : Axis
no_axis = as_axis no_fixed

-- the 26 axes of a placement
unfoldable pub axes_under : Placement → List Axis
axes_under p = map as_axis fixed_axes ++ map (turned p) fixed_axes

-- the one at a place of the list, counted from 0
unfoldable pub axis_at : Placement → ℕ → Axis
axis_at p i = slice_index_or (axes_under p) i no_axis
