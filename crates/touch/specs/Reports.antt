-- The lines of a report.
use Rattle.std.specs.Prelude.{ℕ, Bool, cond, List, [], ◌++◌, codes, decimal}
use Rattle.jobtext.specs.declared.fault.Flaw.TheVariants.{WrongLength}
use Rattle.jobtext.specs.declared.section.Section.TheVariants.{Kind}
use Rattle.touch.specs.declared.refusal.Fault.TheVariants.{Text}
use Rattle.touch.specs.declared.stop.Stop.{Stop}
use Rattle.touch.specs.declared.stop.Stop.TheVariants.{Refused, LargerObject, OutOfMemory}
use Rattle.touch.specs.Faults.{refusal_line}

-- the lines of a placement at which two facets are parted, or not
abbrev pub lines_of_placement : ℕ → Bool → List ℕ
lines_of_placement i parted =
    codes "placement " ++ (decimal i ++ cond parted (codes ": 0 pairs, 1 tests\n") (codes ": 1 pairs, 1 tests\n0 0\n"))

-- the last line of a report that ends before the job does
abbrev pub stop_line : Stop → List ℕ
stop_line (Refused r) = refusal_line r ++ codes "\n"
stop_line LargerObject = codes "this version compares single facets without ties only\n"
stop_line (OutOfMemory error) = []

-- a job with too many bytes
abbrev pub too_long : Stop
too_long = Refused (record { fault = Text WrongLength; blame = record { section = Kind; word = 0 } })
