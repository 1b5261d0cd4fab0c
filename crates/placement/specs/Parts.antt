-- The parts of a placement by their names.
use Rattle.std.specs.Prelude.{ℕ, T, ℤ, nat_le, unsigned_abs}
use Rattle.std.proofs.Common.{leb→le}
use Rattle.placement.specs.declared.parts.Triple.{Triple}
use Rattle.placement.specs.Units.{matrix_limit, shift_limit}

-- a row of the matrix
abbrev pub Row : Type 0
Row = Triple matrix_limit

-- where the piece is set down
abbrev pub Shift : Type 0
Shift = Triple shift_limit

-- either by its entries, which are seen to be in range
abbrev pub triple : {n : ℕ} (x y z : ℤ) → T (nat_le (unsigned_abs x) n) → T (nat_le (unsigned_abs y) n) → T (nat_le (unsigned_abs z) n) → Triple n
triple {n = n} x y z f g h = record { x = x; y = y; z = z; x_in = leb→le (unsigned_abs x) n f; y_in = leb→le (unsigned_abs y) n g; z_in = leb→le (unsigned_abs z) n h }
