-- The lines of a report.
use Rattle.std.specs.Prelude.{ℕ, ◌+◌, ◌*◌, List, [], ◌∷◌, ◌++◌, take, drop, Some, None, codes, decimal, Option}
use Rattle.std.specs.List.{flat_map}
use Rattle.book.specs.declared.call.Answer.{Answer}
use Rattle.book.specs.declared.call.Answer.TheVariants.{Started, Entered, Filed, Removed, Listed, Refused}
use Rattle.book.specs.Refusals.{number}
use Rattle.jobtext.specs.declared.fault.Blame.{Blame}
use Rattle.jobtext.specs.declared.fault.Fault.{Fault}
use Rattle.jobtext.specs.Faults.{flaw_number}
use Rattle.jobtext.specs.Sections.{name}

-- the last line of a report on a job with a fault
abbrev pub refusal_line : ℕ → Blame → List ℕ
refusal_line n b =
    codes "refused " ++ (decimal n ++ (codes " in " ++ (name b.section ++ (codes ", word " ++ (decimal b.word ++ codes "\n")))))

-- the line of a comparison: its number, how many pairs it lists, and after how many tests
abbrev pub placement_line : ℕ → ℕ → ℕ → List ℕ
placement_line k count tests =
    codes "placement " ++ (decimal k ++ (codes ": " ++ (decimal count ++ (codes " pairs, " ++ (decimal tests ++ codes " tests\n")))))

-- the line of a pair: the moved facet, the standing facet
abbrev pub pair_line : ℕ × ℕ → List ℕ
pair_line p = decimal p.0 ++ (codes " " ++ (decimal p.1 ++ codes "\n"))

-- the fault of the text, where the text has one
abbrev pub fault_line : Option Fault → List ℕ
fault_line None = []
fault_line (Some e) = refusal_line (flaw_number e.flaw) e.blame

module _ (lists : List (ℕ × ℕ)) (places : ℕ) (fault : Option Fault) where
  -- the report from the comparison number k on: the first refusal cuts it
  unfoldable pub report_from : ℕ → List Answer → List Blame → List ℕ
  report_from k [] bs = fault_line fault
  report_from k (a ∷ rest) [] = fault_line fault
  report_from k (Started ∷ rest) (b ∷ bs) = report_from k rest bs
  report_from k (Entered n ∷ rest) (b ∷ bs) = report_from k rest bs
  report_from k (Filed n ∷ rest) (b ∷ bs) = report_from k rest bs
  report_from k (Removed n ∷ rest) (b ∷ bs) = report_from k rest bs
  report_from k (Listed count tests ∷ rest) (b ∷ bs) =
      placement_line k count tests ++ (flat_map pair_line (take count (drop (k * places) lists)) ++ report_from (k + 1) rest bs)
  report_from k (Refused why ∷ rest) (b ∷ bs) = refusal_line (number why) b

  -- the report on a job whose requests were answered so
  abbrev pub report_of : List Answer → List Blame → List ℕ
  report_of answers bs = report_from 0 answers bs
