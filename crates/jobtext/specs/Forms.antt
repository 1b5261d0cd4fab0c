-- The rows of a section: so many numbers each, which make one request.
use Rattle.std.specs.Prelude.{ℕ, List, ℤ, pos, slice_index_or}
use Rattle.book.specs.declared.call.Call.TheVariants.{Start, Facet, Tie, Close}
use Rattle.book.specs.declared.call.Request.{Request}
use Rattle.book.specs.declared.call.Request.TheVariants.{Write, Compare}

pub record Form : Type 0 where
  pub width : ℕ
  pub request : List ℤ → Request

-- a job's calls carry this mark
abbrev pub mark : ℕ
mark = 0

-- nine numbers are a facet
abbrev pub facet : Form
facet = record { width = 9; request = λ ns. Write (Facet mark ns) }

-- two numbers are a tie
abbrev pub tie : Form
tie = record { width = 2; request = λ ns. Write (Tie mark (slice_index_or ns 0 (pos 0)) (slice_index_or ns 1 (pos 0))) }

-- twelve numbers are a placement: the first object is moved, the second stands
abbrev pub placement : Form
placement = record { width = 12; request = λ ns. Compare (record { moved = pos 0; standing = pos 1; placement = ns }) }

-- an object is begun
abbrev pub start : Request
start = Write Start

-- an object is complete
abbrev pub close : Request
close = Write (Close mark)
