-- What a comparison answers, from what its walk answers.
use Rattle.std.proofs.Common.{◌≡◌, ℕ, true, List}
use Rattle.placement.specs.declared.parts.Placement.{Placement}
use Rattle.book.specs.declared.call.Answer.{Answer}
use Rattle.book.specs.declared.call.Comparison.{Comparison}
use Rattle.book.specs.Books.{Book}
use Rattle.walks.specs.Answers.{both_closed, Answers, no_object, no_placement, no_place, listed}

-- where the walk is known by other words
pub answers_as : {b : Book} {c : Comparison} {P Q : Placement → List (ℕ × ℕ) → ℕ → Type 0} {before after : List (ℕ × ℕ)} {a : Answer} → (both_closed b c ≡ true → (p : Placement) (pairs : List (ℕ × ℕ)) (tests : ℕ) → P p pairs tests → Q p pairs tests) → Answers b c P before after a → Answers b c Q before after a
answers_as f (no_object n e) = no_object n e
answers_as f (no_placement y n e) = no_placement y n e
answers_as f (no_place y {p} i {pairs} {tests} w h) = no_place y i (f y p pairs tests w) h
answers_as f (listed y {p} i {pairs} {tests} w h) = listed y i (f y p pairs tests w) h
