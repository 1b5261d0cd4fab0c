-- The numbers of a placement's rules, each in one place.
use Rattle.std.specs.Prelude.{ℕ, ◌*◌}

-- a shift counts in units of which so many make a tick
abbrev pub shift_scale : ℕ
shift_scale = 4096

-- a unit of a shift is so many units of an image
abbrev pub shift_unit : ℕ
shift_unit = 256

-- the image of a corner counts in units of which so many make a tick
abbrev pub W : ℕ
W = shift_unit * shift_scale

-- an entry of a matrix, in units of 1/W, is at most this in size
abbrev pub matrix_limit : ℕ
matrix_limit = W

-- an entry of a shift is at most this in size
abbrev pub shift_limit : ℕ
shift_limit = 536870912
