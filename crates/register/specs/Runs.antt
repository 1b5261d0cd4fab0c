-- Whole histories of calls.
use Rattle.std.specs.Prelude.{◌≡◌, ℕ, min, List, [], ◌∷◌, length, take, drop}
use Rattle.book.specs.declared.call.Call.{Call}
use Rattle.book.specs.declared.call.Answer.{Answer}
use Rattle.book.specs.Books.{Book, Said, opened}

-- from one book on, each call gets its answer and leaves the book that the next call finds
pub data Ran : Book → List Call → List Answer → Book → Type 0 where
  none : {b : Book} → Ran b [] [] b
  more : {b c after : Book} {call : Call} {calls : List Call} {answer : Answer} {answers : List Answer} → Said b call answer c → Ran c calls answers after → Ran b (call ∷ calls) (answer ∷ answers) after

-- a register over so many places was opened, as many calls were made as there are places for answers, and the rest of these stayed
pub record Replayed (mark places : ℕ) (calls : List Call) (before after : List Answer) : Type 0 where
  pub last : Book
  pub ran : Ran (opened mark places) (take (min (length calls) (length before)) calls) (take (min (length calls) (length before)) after) last
  pub kept : drop (min (length calls) (length before)) after ≡ drop (min (length calls) (length before)) before
