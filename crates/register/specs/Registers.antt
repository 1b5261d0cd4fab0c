-- The book of a register, and what its calls answer.
use Rattle.std.specs.Prelude.{◌≡◌, ℕ, ◌+◌, ◌-◌, ◌<◌, Bool, true, false, List, [], ◌∷◌, ◌++◌, length, ℤ, Some, None, Ok, Err, Result, unsigned_abs}
use Rattle.hull.specs.declared.corner.Corner.{Corner}
use Rattle.hull.specs.declared.kind.Hull as hull
use Rattle.book.specs.declared.item.Item.{Item}
use Rattle.book.specs.declared.item.Item.TheVariants as item
use Rattle.book.specs.declared.refusal.Refusal.{Refusal}
use Rattle.book.specs.declared.refusal.Refusal.TheVariants as refusal
use Rattle.book.specs.declared.call.Call.TheVariants as call
use Rattle.book.specs.declared.call.Answer.{Answer}
use Rattle.book.specs.declared.call.Answer.TheVariants as answer
use Rattle.book.specs.Facets.{within, facet_of}
use Rattle.book.specs.Books.{Book, room, stored, height_of_tie, questions, first_no, turned, shelved}
use Rattle.book.specs.Pages.{allowed}
use Rattle.book.specs.Ledgers.{drafted, book_over, repaged}
use Rattle.book.specs.declared.ledger.Ledger.{Ledger}
use Rattle.book.specs.Trees.{trees, tree_of, corners}
use Rattle.book.specs.Hulls.{GrownFrom, GrownOver}
use Rattle.register.specs.declared.place.Place.{Place}
use Rattle.register.specs.declared.draft.Draft.{Draft}
use Rattle.register.specs.declared.draft.Unclosed.{Unclosed}
use Rattle.register.specs.declared.draft.Unclosed.TheVariants as unclosed
use Rattle.register.specs.declared.register.Register.{Register}
use Rattle.register.specs.Tables.{items_of, hulls_of, Wrote}

-- the book that the register keeps
unfoldable pub book_of : {H : Type 0} {kind : hull.Ghosts H} → Register H kind → Book
book_of r = book_over r.ledger (items_of r.table.now)

-- every stored hull is the one grown from its item's corner list
abbrev pub Grown : {H : Type 0} {kind : hull.Ghosts H} → (Corner → H) → (H → Corner → H) → Register H kind → Type 0
Grown begun grown r = GrownOver begun grown r.ledger (items_of r.table.now) (hulls_of r.table.now)

-- what start answers
abbrev pub started : Result Draft Refusal → Answer
started (Ok d) = answer.Started
started (Err why) = answer.Refused why

-- what facet and tie answer
abbrev pub entered : Result ℕ Refusal → Answer
entered (Ok n) = answer.Entered n
entered (Err why) = answer.Refused why

-- why a draft was not closed, without the draft
abbrev pub refusal_of : Unclosed → Refusal
refusal_of (unclosed.NotThisDraft d) = refusal.NotThisDraft
refusal_of unclosed.PartsLeftOver = refusal.PartsLeftOver

-- what close answers
abbrev pub filed : Result ℕ Unclosed → Answer
filed (Ok n) = answer.Filed n
filed (Err why) = answer.Refused (refusal_of why)

-- what drop answers
abbrev pub removed : Result ℕ (Draft × Refusal) → Answer
removed (Ok n) = answer.Removed n
removed (Err e) = answer.Refused e.1

-- a draft that is handed out carries the mark
abbrev pub Marked : ℕ → Result Draft Refusal → Type 0
Marked mark (Ok d) = d.mark ≡ mark
Marked mark (Err why) = Unit {0}

-- a draft that close does not spend comes back as it was
abbrev pub BackFromClose : Draft → Result ℕ Unclosed → Type 0
BackFromClose draft (Ok n) = Unit {0}
BackFromClose draft (Err (unclosed.NotThisDraft d)) = d ≡ draft
BackFromClose draft (Err unclosed.PartsLeftOver) = Unit {0}

-- so does one that drop does not spend
abbrev pub BackFromDrop : Draft → Result ℕ (Draft × Refusal) → Type 0
BackFromDrop draft (Ok n) = Unit {0}
BackFromDrop draft (Err e) = e.0 ≡ draft

-- an entered item stands at the first free place, and a refusal writes nothing
abbrev pub Filled : {H : Type 0} {kind : hull.Ghosts H} → Register H kind → Register H kind → Item → Result ℕ Refusal → Type 0
Filled before after e (Ok n) = Wrote before.table.now after.table.now (stored (book_of before)) e
Filled before after e (Err why) = after.table.now ≡ before.table.now

-- the item that a tie enters
abbrev pub tie_of : ℤ → ℤ → Item
tie_of x y = item.Tie (unsigned_abs x) (unsigned_abs y)

-- an accepted call changes the table so, and a refusal writes nothing
abbrev pub FilledBy : {H : Type 0} {kind : hull.Ghosts H} → (Book → List (Place H) → List (Place H) → Type 0) → Register H kind → Register H kind → Result ℕ Refusal → Type 0
FilledBy Stands before after (Ok n) = Stands (book_of before) before.table.now after.table.now
FilledBy Stands before after (Err why) = after.table.now ≡ before.table.now

-- the questions put to a facet that is to be an object: those of start, then those of the facet
abbrev pub lone_questions : Book → List ℤ → List (Refusal × Bool)
lone_questions b numbers = questions b call.Start ++ (refusal.OutOfRange, within numbers) ∷ (refusal.TableFull, room b) ∷ []

-- the facet alone is the next object, or the first no refuses it and the book is as it was
abbrev pub FiledAlone : Book → List ℤ → Result ℕ Refusal → Book → Type 0
FiledAlone b numbers (Ok n) after = (first_no (lone_questions b numbers) ≡ None) × (n ≡ length b.objects) × (after ≡ shelved (turned b (Some (item.Facet (facet_of numbers) ∷ []))))
FiledAlone b numbers (Err why) after = (first_no (lone_questions b numbers) ≡ Some why) × (after ≡ b)

-- the ledger with no draft
abbrev pub cleared : Ledger → Ledger
cleared l = repaged l false l.base 0

-- the ledger after a tie
abbrev pub with_tie : Ledger → Ledger
with_tie l = repaged l l.drafting (l.used + 1) (l.loose - 1)

-- the place holds a tie of items x and y that may be entered, with the hull grown from its corner list
pub record Joining {H : Type 0} {kind : hull.Ghosts H} (r : Register H kind) (x y : ℕ) (tie : Place H) : Type 0 where
  pub drafting : r.ledger.drafting ≡ true
  pub room : r.ledger.used < r.ledger.end
  pub allowed : allowed (drafted r.ledger (items_of r.table.now)) (item.Tie x y) ≡ true
  pub hull : GrownFrom kind.begun kind.grown (corners (tree_of (trees (drafted r.ledger (items_of r.table.now))) (item.Tie x y))) tie.hull
  pub item : tie.item ≡ item.Tie x y
  pub height : tie.height ≡ height_of_tie (drafted r.ledger (items_of r.table.now)) x y
  pub untied : tie.tied ≡ false
