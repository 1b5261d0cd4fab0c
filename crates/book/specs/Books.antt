-- The book that a register is held to.
use Rattle.std.specs.Prelude.{◌≡◌, ℕ, ◌+◌, min, max, Bool, true, false, cond, not, ◌&&◌, List, [], ◌∷◌, ◌++◌, length, ℤ, pos, negsuc, is_some, Some, None, sum_by, Option, ◌==◌, nat_le, nat_lt, slice_index_or, unsigned_abs}
use Rattle.book.specs.declared.item.Item.{Item}
use Rattle.book.specs.declared.item.Item.TheVariants as item
use Rattle.book.specs.declared.call.Call.{Call}
use Rattle.book.specs.declared.call.Call.TheVariants as call
use Rattle.book.specs.declared.call.Answer.{Answer}
use Rattle.book.specs.declared.call.Answer.TheVariants as answer
use Rattle.book.specs.declared.refusal.Refusal.{Refusal}
use Rattle.book.specs.declared.refusal.Refusal.TheVariants.{DraftOpen, ObjectsFull, NotThisDraft, OutOfRange, TableFull, PartsNotFree, TooHigh, PartsLeftOver}
use Rattle.book.specs.Refusals.{number}
use Rattle.book.specs.Limits.{height_limit, object_limit, place_limit}
use Rattle.book.specs.Facets.{within, facet_of}
use Rattle.book.specs.Trees.{height_at, tied, untied}

pub record Book : Type 0 where
  pub mark : ℕ
  pub capacity : ℕ
  -- the items of the open draft
  pub page : Option (List Item)
  -- the items of each closed object
  pub objects : List (List Item)

-- the book of a register that was opened over so many places
abbrev pub opened : ℕ → ℕ → Book
opened mark places = record { mark = mark; capacity = min places place_limit; page = None; objects = [] }

-- the items of the draft, none where no draft is open
abbrev pub written : Option (List Item) → List Item
written None = []
written (Some p) = p

-- how many items are stored, in the draft and in all objects
unfoldable pub stored : Book → ℕ
stored b = length (written b.page) + sum_by length b.objects

-- is a draft open here and does the mark match?
unfoldable pub here : Book → ℕ → Bool
here b mark = is_some b.page && mark == b.mark

-- are fewer items stored than the capacity?
unfoldable pub room : Book → Bool
room b = nat_lt (stored b) b.capacity

-- is x an item of the page that no tie has?
unfoldable pub free : List Item → ℕ → Bool
free p x = nat_lt x (length p) && not (tied p x)

-- are x and y different items of the page, neither tied?
unfoldable pub joinable : List Item → ℕ → ℕ → Bool
joinable p x y = not (x == y) && (free p x && free p y)

-- is the number one to count by?
abbrev pub counts : ℤ → Bool
counts (pos n) = true
counts (negsuc n) = false

-- the same of any two numbers
unfoldable pub joins : List Item → ℤ → ℤ → Bool
joins p x y = counts x && (counts y && joinable p (unsigned_abs x) (unsigned_abs y))

-- the height of a tie of x and y
unfoldable pub height_of_tie : List Item → ℕ → ℕ → ℕ
height_of_tie p x y = 1 + max (height_at p x) (height_at p y)

-- is the new height within the limit?
unfoldable pub low : List Item → ℕ → ℕ → Bool
low p x y = nat_le (height_of_tie p x y) height_limit

-- is this the number of a closed object?
unfoldable pub closed : Book → ℤ → Bool
closed b n = counts n && nat_lt (unsigned_abs n) (length b.objects)

-- its items
abbrev pub object : Book → ℤ → List Item
object b n = slice_index_or b.objects (unsigned_abs n) []

-- the questions put to a call, in order, each with the refusal that a no leads to and the book's answer
abbrev pub questions : Book → Call → List (Refusal × Bool)
questions b call.Start = (DraftOpen, not (is_some b.page)) ∷ (ObjectsFull, nat_lt (length b.objects) object_limit) ∷ []
questions b (call.Facet m n) = (NotThisDraft, here b m) ∷ (OutOfRange, within n) ∷ (TableFull, room b) ∷ []
questions b (call.Tie m x y) = (NotThisDraft, here b m) ∷ (PartsNotFree, joins (written b.page) x y) ∷ (TooHigh, low (written b.page) (unsigned_abs x) (unsigned_abs y)) ∷ (TableFull, room b) ∷ []
questions b (call.Close m) = (NotThisDraft, here b m) ∷ (PartsLeftOver, (untied (written b.page) == 1)) ∷ []
questions b (call.Drop m) = (NotThisDraft, here b m) ∷ []

-- the first no decides
abbrev pub first_no : List (Refusal × Bool) → Option Refusal
first_no [] = None
first_no (q ∷ qs) = cond q.1 (first_no qs) (Some q.0)

-- the book with another page
abbrev pub turned : Book → Option (List Item) → Book
turned b p = record { mark = b.mark; capacity = b.capacity; page = p; objects = b.objects }

-- one more item on the page
abbrev pub added : Book → Item → Book
added b e = turned b (Some (written b.page ++ e ∷ []))

-- the page becomes the next object
abbrev pub shelved : Book → Book
shelved b = record { mark = b.mark; capacity = b.capacity; page = None; objects = b.objects ++ written b.page ∷ [] }

-- what a call answers, and the book after it
pub record Outcome : Type 0 where
  pub answer : Answer
  pub next : Book

-- an accepted call
abbrev pub taken : Book → Call → Outcome
taken b call.Start = record { answer = answer.Started; next = turned b (Some []) }
taken b (call.Facet m n) = record { answer = answer.Entered (length (written b.page)); next = added b (item.Facet (facet_of n)) }
taken b (call.Tie m x y) = record { answer = answer.Entered (length (written b.page)); next = added b (item.Tie (unsigned_abs x) (unsigned_abs y)) }
taken b (call.Close m) = record { answer = answer.Filed (length b.objects); next = shelved b }
taken b (call.Drop m) = record { answer = answer.Removed (length (written b.page)); next = turned b None }

-- a refused call writes nothing, but 8 throws the page away
abbrev pub decided : Book → Call → Option Refusal → Outcome
decided b c None = taken b c
decided b c (Some why) = record { answer = answer.Refused why; next = cond (number why == 8) (turned b None) b }

unfoldable pub outcome : Book → Call → Outcome
outcome b c = decided b c (first_no (questions b c))

-- the call gave this answer, and left this book
pub record Said (b : Book) (c : Call) (a : Answer) (after : Book) : Type 0 where
  pub answer : a ≡ (outcome b c).answer
  pub book : after ≡ (outcome b c).next
