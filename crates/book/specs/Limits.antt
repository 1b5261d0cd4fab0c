-- The limits of a register, each in one place.
use Rattle.std.specs.Prelude.{ℕ}

-- an item is at most so high
abbrev pub height_limit : ℕ
height_limit = 32

-- so many objects may be closed
abbrev pub object_limit : ℕ
object_limit = 64

-- so many places of a table are used at most
abbrev pub place_limit : ℕ
place_limit = 65536
