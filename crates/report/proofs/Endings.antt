-- How a report ends.
use Rattle.std.proofs.Common.{◌≡◌, ℕ, ◌+◌, ◌*◌, List, [], ◌∷◌, ◌++◌, length, take, drop, Option, sym, refl, ap, ◌∙◌, append_assoc, append-nil, arith}
use Rattle.std.specs.List.{flat_map, AllByRecursion}
use Rattle.std.proofs.lemmas.List.{take-append-drop, length-take-le}
use Rattle.std.proofs.lemmas.Bool.{false≢true}
use Rattle.book.specs.declared.call.Answer.{Answer}
use Rattle.book.specs.declared.call.Answer.TheVariants.{Started, Entered, Filed, Removed, Listed, Refused}
use Rattle.jobtext.specs.declared.fault.Blame.{Blame}
use Rattle.jobtext.specs.declared.fault.Fault.{Fault}
use Rattle.report.specs.Endings.{Accepted, comparisons, Ends}
use Rattle.report.specs.Reports.{placement_line, pair_line, report_from, report_of}

module _ (lists : List (ℕ × ℕ)) (places : ℕ) (fault : Option Fault) where
  -- the number of the next comparison
  later : ℕ → List Answer → ℕ
  later k [] = k
  later k (Started ∷ rest) = later k rest
  later k (Entered n ∷ rest) = later k rest
  later k (Filed n ∷ rest) = later k rest
  later k (Removed n ∷ rest) = later k rest
  later k (Listed count tests ∷ rest) = later (k + 1) rest
  later k (Refused why ∷ rest) = later k rest

  -- accepted answers in front
  front_first : (k : ℕ) (front rest : List Answer) (before behind : List Blame) → AllByRecursion Accepted front → length before ≡ length front → report_from lists places fault k (front ++ rest) (before ++ behind) ≡ comparisons lists places k front ++ report_from lists places fault (later k front) rest behind
  unfolding report_from comparisons later
  front_first k [] rest [] behind all long = refl
  front_first k [] rest (b ∷ before) behind all long = absurd (omega arith)
  front_first k (a ∷ front) rest [] behind all long = absurd (omega arith)
  front_first k (Started ∷ front) rest (b ∷ before) behind all long = front_first k front rest before behind all.1 (omega arith)
  front_first k (Entered n ∷ front) rest (b ∷ before) behind all long = front_first k front rest before behind all.1 (omega arith)
  front_first k (Filed n ∷ front) rest (b ∷ before) behind all long = front_first k front rest before behind all.1 (omega arith)
  front_first k (Removed n ∷ front) rest (b ∷ before) behind all long = front_first k front rest before behind all.1 (omega arith)
  front_first k (Listed count tests ∷ front) rest (b ∷ before) behind all long =
      let line = placement_line k count tests in
      let pairs = flat_map pair_line (take count (drop (k * places) lists)) in
      ap (λ l. line ++ (pairs ++ l)) (front_first (k + 1) front rest before behind all.1 (omega arith))
      ∙ sym (append_assoc line (pairs ++ comparisons lists places (k + 1) front) _ ∙ ap (λ l. line ++ l) (append_assoc pairs (comparisons lists places (k + 1) front) _))
  front_first k (Refused why ∷ front) rest (b ∷ before) behind all long = absurd (false≢true all.0)

  -- a report ends with the first refusal, or with the fault of the text
  pub ends : (answers : List Answer) (bs : List Blame) (report : List ℕ) → report ≡ report_of lists places fault answers bs → Ends lists places fault answers bs report
  unfolding report_from
  ends answers bs report told =
      record {
        whole = λ all long.
            let n = length answers in
            told ∙ (λ i. report_from lists places fault 0 (sym (append-nil answers) i) (sym (take-append-drop n bs) i))
            ∙ front_first 0 answers [] (take n bs) (drop n bs) all (length-take-le n bs long);
        cut = λ front why more before b behind is blamed long all.
            told ∙ (λ i. report_from lists places fault 0 (is i) (blamed i)) ∙ front_first 0 front (Refused why ∷ more) before (b ∷ behind) all long;
      }
