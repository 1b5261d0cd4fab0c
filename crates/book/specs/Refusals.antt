-- The numbers of the refusals.
use Rattle.std.specs.Prelude.{◌≡◌, ℕ, Result, MatchResult}
use Rattle.book.specs.declared.refusal.NoRefusal.{NoRefusal}
use Rattle.book.specs.declared.refusal.Refusal.{Refusal}
use Rattle.book.specs.declared.refusal.Refusal.TheVariants.{DraftOpen, ObjectsFull, NotThisDraft, OutOfRange, TableFull, PartsNotFree, TooHigh, PartsLeftOver, NoSuchObject, PlacementOutOfRange, ListFull}

-- the number of the question that is answered no
abbrev pub number : Refusal → ℕ
number DraftOpen = 1
number ObjectsFull = 2
number NotThisDraft = 3
number OutOfRange = 4
number TableFull = 5
number PartsNotFree = 6
number TooHigh = 7
number PartsLeftOver = 8
number NoSuchObject = 9
number PlacementOutOfRange = 10
number ListFull = 11

-- the result is the refusal with this number, or an error with a number that no refusal has
abbrev pub HasNumber : ℕ → Result Refusal NoRefusal → Type 0
HasNumber n r = MatchResult r (λ refusal. number refusal ≡ n) (λ e. (e.0 ≡ n) × ((refusal : Refusal) → number refusal ≡ n → ⊥))
