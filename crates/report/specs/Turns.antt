-- A report, answer by answer.
use Rattle.std.specs.Prelude.{◌≡◌, ℕ, ◌+◌, ◌≤◌, List, ◌∷◌, ◌++◌, Some, None, Option}
use Rattle.book.specs.declared.call.Answer.{Answer}
use Rattle.jobtext.specs.declared.fault.Blame.{Blame}
use Rattle.jobtext.specs.declared.fault.Fault.{Fault}
use Rattle.report.specs.Reports.{report_from}

-- `after` holds the lines of the answer too, and what is left of the report follows, from the comparison m on or not at all
abbrev pub Goes : List (ℕ × ℕ) → ℕ → ℕ → Answer → Blame → List ℕ → List ℕ → Option ℕ → Type 0
Goes lists places k a b before after (Some m) =
    (m ≤ k + 1) × ((fault : Option Fault) (rest : List Answer) (bs : List Blame) → after ++ report_from lists places fault m rest bs ≡ before ++ report_from lists places fault k (a ∷ rest) (b ∷ bs))
Goes lists places k a b before after None =
    (fault : Option Fault) (rest : List Answer) (bs : List Blame) → after ≡ before ++ report_from lists places fault k (a ∷ rest) (b ∷ bs)

-- one answer is reported
pub record Turned (lists : List (ℕ × ℕ)) (places k : ℕ) (a : Answer) (b : Blame) (before after : List ℕ) (t : Option ℕ) : Type 0 where
  pub goes : Goes lists places k a b before after t
