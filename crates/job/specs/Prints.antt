-- What a report says of the requests of a job, over a kind by its begun, grown and reaches, and by its unrounded reaches where it has faces.
use Rattle.std.specs.Prelude.{◌≡◌, ℕ, ◌+◌, ◌≤◌, Bool, true, false, List, [], ◌∷◌, ◌++◌, length, count_by, ℤ, Option}
use Rattle.std.specs.List.{flat_map}
use Rattle.hull.specs.declared.corner.Corner.{Corner}
use Rattle.hull.specs.declared.direction.Direction.{Direction}
use Rattle.placement.specs.declared.parts.Placement.{Placement}
use Rattle.placement.specs.Twelve.{entries}
use Rattle.book.specs.declared.call.Call.{Call}
use Rattle.book.specs.declared.call.Comparison.{Comparison}
use Rattle.book.specs.declared.call.Request.{Request}
use Rattle.book.specs.declared.call.Request.TheVariants.{Write, Compare}
use Rattle.book.specs.declared.call.Answer.{Answer}
use Rattle.book.specs.declared.call.Answer.TheVariants.{Refused}
use Rattle.book.specs.declared.refusal.Refusal.{Refusal}
use Rattle.book.specs.Refusals.{number}
use Rattle.book.specs.Books.{Book, Said, object}
use Rattle.walks.specs.Comparisons.{Listing}
use Rattle.walks.specs.Answers.{both_closed}
use Rattle.walks.specs.Runs.{Compared}
use Rattle.jobtext.specs.declared.fault.Blame.{Blame}
use Rattle.jobtext.specs.declared.fault.Fault.{Fault}
use Rattle.report.specs.Endings.{accepted}
use Rattle.report.specs.Reports.{placement_line, pair_line, refusal_line, fault_line}

-- a job has so many items
abbrev pub job_items : ℕ
job_items = 1024

-- and its comparisons so many places for pairs
abbrev pub pair_places : ℕ
pair_places = 4096

-- does the request ask for a comparison?
abbrev pub compares : Request → Bool
compares (Write c) = false
compares (Compare c) = true

-- how many comparisons there are among the requests
abbrev pub comparisons_in : List Request → ℕ
comparisons_in rs = count_by compares rs

module _ {H : Type 0} (begun : Corner → H) (grown : H → Corner → H) (reaches : H → Direction → ℤ) (faced : Type 0) (unrounded : List Corner → Direction → ℤ) (fault : Option Fault) where
  -- from comparison k and this book on, the requests, each with the word that is blamed for it, make this text
  pub data Prints : ℕ → Book → List Request → List Blame → List ℕ → Type 0 where
    -- all were accepted: the fault of the job's own text, where it has one, ends the report
    ended : {k : ℕ} {b : Book} → Prints k b [] [] (fault_line fault)
    -- a call that writes is accepted and prints nothing
    wrote : {k : ℕ} {b c : Book} {call : Call} {answer : Answer} {requests : List Request} {blame : Blame} {blames : List Blame} {text : List ℕ}
        → Said b call answer c → accepted answer ≡ true → Prints k c requests blames text → Prints k b (Write call ∷ requests) (blame ∷ blames) text
    -- a comparison is accepted: its line and a line for each pair of the walk
    listed : {k : ℕ} {b : Book} {c : Comparison} {p : Placement} {pairs : List (ℕ × ℕ)} {tests : ℕ} {requests : List Request} {blame : Blame} {blames : List Blame} {text : List ℕ}
        → both_closed b c ≡ true → entries p ≡ c.placement → Listing begun grown reaches faced unrounded (object b c.moved) (object b c.standing) p pairs tests → length pairs ≤ pair_places
        → Prints (k + 1) b requests blames text → Prints k b (Compare c ∷ requests) (blame ∷ blames) (placement_line k (length pairs) tests ++ (flat_map pair_line pairs ++ text))
    -- the first refusal ends the report
    no_write : {k : ℕ} {b c : Book} {call : Call} {why : Refusal} {requests : List Request} {blame : Blame} {blames : List Blame}
        → Said b call (Refused why) c → Prints k b (Write call ∷ requests) (blame ∷ blames) (refusal_line (number why) blame)
    no_list : {k : ℕ} {b : Book} {c : Comparison} {why : Refusal} {before after : List (ℕ × ℕ)} {requests : List Request} {blame : Blame} {blames : List Blame}
        → length before ≡ pair_places → Compared begun grown reaches faced unrounded b c before after (Refused why) → Prints k b (Compare c ∷ requests) (blame ∷ blames) (refusal_line (number why) blame)
