-- How a report ends: with all that was compared, and then the first refusal or the fault of the text.
use Rattle.std.specs.Prelude.{◌≡◌, ℕ, ◌+◌, ◌*◌, ◌≤◌, Bool, true, false, IsTrue, List, [], ◌∷◌, ◌++◌, length, take, drop, Option}
use Rattle.std.specs.List.{flat_map, AllByRecursion}
use Rattle.book.specs.declared.call.Answer.{Answer}
use Rattle.book.specs.declared.call.Answer.TheVariants.{Started, Entered, Filed, Removed, Listed, Refused}
use Rattle.book.specs.declared.refusal.Refusal.{Refusal}
use Rattle.book.specs.Refusals.{number}
use Rattle.jobtext.specs.declared.fault.Blame.{Blame}
use Rattle.jobtext.specs.declared.fault.Fault.{Fault}
use Rattle.report.specs.Reports.{placement_line, pair_line, refusal_line, fault_line}

-- was the call accepted?
abbrev pub accepted : Answer → Bool
accepted Started = true
accepted (Entered n) = true
accepted (Filed n) = true
accepted (Removed n) = true
accepted (Listed count tests) = true
accepted (Refused why) = false

-- the answer is no refusal
abbrev pub Accepted : Answer → Type 0
Accepted a = IsTrue (accepted a)

module _ (lists : List (ℕ × ℕ)) (places : ℕ) where
  -- the lines of all comparisons among the answers, the first of them with the number k
  unfoldable pub comparisons : ℕ → List Answer → List ℕ
  comparisons k [] = []
  comparisons k (Started ∷ rest) = comparisons k rest
  comparisons k (Entered n ∷ rest) = comparisons k rest
  comparisons k (Filed n ∷ rest) = comparisons k rest
  comparisons k (Removed n ∷ rest) = comparisons k rest
  comparisons k (Listed count tests ∷ rest) =
      placement_line k count tests ++ (flat_map pair_line (take count (drop (k * places) lists)) ++ comparisons (k + 1) rest)
  comparisons k (Refused why ∷ rest) = comparisons k rest

  -- the bytes of a report on so many answers, as many blames, and the fault of the text
  pub record Ends (fault : Option Fault) (answers : List Answer) (bs : List Blame) (report : List ℕ) : Type 0 where
    -- where no request is refused, all comparisons are reported, and then the fault of the text
    pub whole : AllByRecursion Accepted answers → length answers ≤ length bs → report ≡ comparisons 0 answers ++ fault_line fault
    -- the first refusal ends the report: what was compared before it stays, and nothing after it counts
    pub cut : (front : List Answer) (why : Refusal) (more : List Answer) (before : List Blame) (b : Blame) (behind : List Blame) → answers ≡ front ++ (Refused why ∷ more) → bs ≡ before ++ (b ∷ behind) → length before ≡ length front → AllByRecursion Accepted front → report ≡ comparisons 0 front ++ refusal_line (number why) b
