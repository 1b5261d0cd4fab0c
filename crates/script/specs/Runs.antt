-- What a part of the code reads, held to a stretch of the reading.
use Rattle.std.specs.Prelude.{◌≡◌, List, ◌++◌, Ok, Err, Vec, vec_items, Result}
use Rattle.std.specs.declared.alloc.Global.{Global}
use Rattle.jobtext.specs.declared.entry.Entry.{Entry}
use Rattle.jobtext.specs.Readings.{Stretch}
use Rattle.jobtext.specs.Words.{Word}
use Rattle.script.specs.declared.stop.Stop.{Stop}
use Rattle.script.specs.declared.stop.Stop.TheVariants.{Faulty, OutOfMemory}

-- the vector holds these entries
abbrev pub Holds : Vec Entry Global → List Entry → Type 0
Holds v es = vec_items v ≡ es

-- these entries have come to the others
abbrev pub Grown : List Entry → List Entry → List Entry → Type 0
Grown a b es = b ≡ a ++ es

-- the stretch is read, and these words are left or its fault is the answer; or there was no memory
abbrev pub Outcome : Stretch → List Entry → List Entry → Result (Unit {0}) Stop → List Word → Type 0
Outcome t a b (Ok _) left = Grown a b t.entries × (t.ends ≡ Ok left)
Outcome t a b (Err (Faulty e)) left = Grown a b t.entries × (t.ends ≡ Err e)
Outcome t a b (Err (OutOfMemory error)) left = Unit {0}

-- code that reads the stretch, from these entries to those
pub record Ran (t : Stretch) (a b : List Entry) (r : Result (Unit {0}) Stop) (left : List Word) : Type 0 where
  pub outcome : Outcome t a b r left
