-- Where the reading of a job is cut.
use Rattle.std.specs.Prelude.{◌≡◌, List, ◌∷◌, ◌++◌, Some}
use Rattle.jobtext.specs.declared.fault.Blame.{Blame}
use Rattle.jobtext.specs.declared.fault.Fault.{Fault}
use Rattle.jobtext.specs.declared.fault.Flaw.TheVariants.{WrongWord, WrongLength}
use Rattle.jobtext.specs.declared.entry.Entry.{Entry}
use Rattle.jobtext.specs.Readings.{Reading, reading_of}
use Rattle.jobtext.specs.Words.{Word}

abbrev pub wrong_at : Blame → Fault
wrong_at b = record { flaw = WrongWord; blame = b }

abbrev pub missing_at : Blame → Fault
missing_at b = record { flaw = WrongLength; blame = b }

-- the same requests, and then a word is missing
abbrev pub lacking : Reading → Blame → Reading
lacking t b = record { kind = t.kind; entries = t.entries; fault = Some (missing_at b) }

-- the reading is cut at a word: what stands before it lacks just this word, and what stands after it does not matter
pub record CutAt (b : Blame) (ws : List Word) : Type 0 where
  pub front : List Word
  pub wrong : Word
  pub after : List Word
  pub are : ws ≡ front ++ (wrong ∷ after)
  pub lacks : reading_of front ≡ lacking (reading_of ws) b
  pub anyway : (vs : List Word) → reading_of (front ++ (wrong ∷ vs)) ≡ reading_of ws

-- the one list begins with the other
abbrev pub Begins : List Entry → List Entry → Type 0
Begins es fs = (gs : List Entry) × (fs ≡ es ++ gs)
