-- Whole histories of calls, over a kind by its begun, grown and reaches, and by its unrounded reaches where it has faces.
use Rattle.std.specs.Prelude.{◌≡◌, ℕ, suc, ◌*◌, min, List, [], ◌∷◌, length, take, drop, ℤ}
use Rattle.hull.specs.declared.corner.Corner.{Corner}
use Rattle.hull.specs.declared.direction.Direction.{Direction}
use Rattle.book.specs.declared.call.Call.{Call}
use Rattle.book.specs.declared.call.Comparison.{Comparison}
use Rattle.book.specs.declared.call.Request.{Request}
use Rattle.book.specs.declared.call.Request.TheVariants.{Write, Compare}
use Rattle.book.specs.declared.call.Answer.{Answer}
use Rattle.book.specs.Books.{Book, Said, object, opened}
use Rattle.walks.specs.Comparisons.{Listing}
use Rattle.walks.specs.Answers.{Answers}

-- the places of comparison k, where each has so many, cut to what there is
abbrev pub stretch : ℕ → ℕ → List (ℕ × ℕ) → List (ℕ × ℕ)
stretch places k lists = take places (drop (k * places) lists)

module _ {H : Type 0} (begun : Corner → H) (grown : H → Corner → H) (reaches : H → Direction → ℤ) (faced : Type 0) (unrounded : List Corner → Direction → ℤ) where
  -- what a comparison of objects of the book answers, and what its list says of them
  abbrev pub Compared : Book → Comparison → List (ℕ × ℕ) → List (ℕ × ℕ) → Answer → Type 0
  Compared b c = Answers b c (Listing begun grown reaches faced unrounded (object b c.moved) (object b c.standing))

  -- from comparison k and one book on, up to comparison n and the last book: each call gets its answer, and the next one goes on from
  -- the book that it leaves; a comparison leaves its list in its own stretch
  module _ (places : ℕ) (before after : List (ℕ × ℕ)) where
    pub data Ran : ℕ → Book → List Request → List Answer → ℕ → Book → Type 0 where
      none : {k : ℕ} {b : Book} → Ran k b [] [] k b
      wrote : {k n : ℕ} {b c last : Book} {call : Call} {answer : Answer} {requests : List Request} {answers : List Answer} → Said b call answer c → Ran k c requests answers n last → Ran k b (Write call ∷ requests) (answer ∷ answers) n last
      asked : {k n : ℕ} {b last : Book} {c : Comparison} {answer : Answer} {requests : List Request} {answers : List Answer} → Compared b c (stretch places k before) (stretch places k after) answer → Ran (suc k) b requests answers n last → Ran k b (Compare c ∷ requests) (answer ∷ answers) n last

  -- a register over so many places was opened; as many calls were made as there are places for answers; the other places for answers,
  -- and the places behind the last comparison's stretch, keep what they held
  pub record Replayed (mark table : ℕ) (requests : List Request) (answers_before answers : List Answer) (places : ℕ) (lists_before lists : List (ℕ × ℕ)) : Type 0 where
    pub last : Book
    pub comparisons : ℕ
    pub ran : Ran places lists_before lists 0 (opened mark table) (take (min (length requests) (length answers_before)) requests) (take (min (length requests) (length answers_before)) answers) comparisons last
    pub answers_kept : drop (min (length requests) (length answers_before)) answers ≡ drop (min (length requests) (length answers_before)) answers_before
    pub lists_kept : drop (comparisons * places) lists ≡ drop (comparisons * places) lists_before
