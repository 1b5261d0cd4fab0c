-- The numbers of the flaws of a text.
use Rattle.std.specs.Prelude.{ℕ}
use Rattle.jobtext.specs.declared.fault.Flaw.{Flaw}
use Rattle.jobtext.specs.declared.fault.Flaw.TheVariants.{WrongWord, WrongLength}

-- the number of a flaw in a report
abbrev pub flaw_number : Flaw → ℕ
flaw_number WrongWord = 12
flaw_number WrongLength = 13
