-- A report, answer by answer.
use Rattle.std.proofs.Common.{◌≡◌, ℕ, ◌+◌, ◌*◌, ◌⊎◌, List, [], ◌∷◌, ◌++◌, map, take, drop, Option, refl, inl, inr, append_assoc, arith}
use Rattle.std.specs.List.{flat_map}
use Rattle.book.specs.declared.call.Answer.{Answer}
use Rattle.book.specs.declared.call.Answer.TheVariants.{Listed}
use Rattle.jobtext.specs.declared.fault.Blame.{Blame}
use Rattle.jobtext.specs.declared.fault.Fault.{Fault}
use Rattle.report.specs.Reports.{placement_line, pair_line, fault_line, report_from}

-- a piece of text after three others
grouped : (a b c d : List ℕ) → (a ++ (b ++ c)) ++ d ≡ a ++ (b ++ (c ++ d))
grouped a b c d = simp append_assoc

module _ (lists : List (ℕ × ℕ)) (places : ℕ) (fault : Option Fault) where
  -- the lines of a comparison, and what is left of the report
  pub listed : (k count tests : ℕ) (rest : List Answer) (b : Blame) (bs : List Blame) (before after : List ℕ) (pairs : List (ℕ × ℕ)) → pairs ≡ take count (drop (k * places) lists) → after ≡ before ++ (placement_line k count tests ++ flat_map pair_line pairs) → after ++ report_from lists places fault (k + 1) rest bs ≡ before ++ report_from lists places fault k (Listed count tests ∷ rest) (b ∷ bs)
  unfolding report_from
  listed k count tests rest b bs before after pairs first grown = rw grown (rw first (grouped before (placement_line k count tests) _ _))

  -- no answer is left, or nothing that holds a blame
  pub none_left : {B : Type 0} (blamed : B → Blame) (k : ℕ) (answers : List Answer) (entries : List B) → (answers ≡ []) ⊎ (entries ≡ []) → report_from lists places fault k answers (map blamed entries) ≡ fault_line fault
  unfolding report_from
  none_left blamed k [] entries none = refl
  none_left blamed k (a ∷ answers) [] none = refl
  none_left blamed k (a ∷ answers) (e ∷ entries) (inl none) = grind (arith, none)
  none_left blamed k (a ∷ answers) (e ∷ entries) (inr none) = grind (arith, none)
