-- Answers in words.
use Rattle.std.specs.Prelude.{ℕ, List, ◌++◌, codes, decimal}
use Rattle.book.specs.declared.call.Answer.{Answer}
use Rattle.book.specs.declared.call.Answer.TheVariants.{Started, Entered, Filed, Removed, Listed, Refused}
use Rattle.book.specs.Refusals.{number}

-- an answer in words, a refusal by its number
abbrev pub told : Answer → List ℕ
told Started = codes "started"
told (Entered item) = codes "entered " ++ decimal item
told (Filed object) = codes "filed " ++ decimal object
told (Removed items) = codes "removed " ++ decimal items
told (Listed pairs tests) = codes "listed " ++ (decimal pairs ++ (codes " " ++ decimal tests))
told (Refused why) = codes "refused " ++ decimal (number why)
