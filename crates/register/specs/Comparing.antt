-- What a comparison over a register's table finds.
use Rattle.std.specs.Prelude.{ℕ, List, [], ℤ, Ok, Err, Result, slice_index_or, unsigned_abs}
use Rattle.hull.specs.declared.direction.Direction.{Direction}
use Rattle.hull.specs.declared.kind.Hull as hull
use Rattle.placement.specs.declared.parts.Placement.{Placement}
use Rattle.book.specs.declared.call.Answer.{Answer}
use Rattle.book.specs.declared.call.Answer.TheVariants as answer
use Rattle.book.specs.declared.call.Comparison.{Comparison}
use Rattle.book.specs.declared.refusal.Refusal.{Refusal}
use Rattle.book.specs.Ledgers.{objects_over}
use Rattle.walks.specs.Walks.{Walk}
use Rattle.walks.specs.Comparisons.{root}
use Rattle.walks.specs.Stored.{PartedStored}
use Rattle.register.specs.declared.place.Place.{Place}
use Rattle.register.specs.declared.register.Register.{Register}
use Rattle.register.specs.Tables.{items_of, hulls_of}

-- the places of the object with this number
unfoldable pub places_of : {H : Type 0} {kind : hull.Ghosts H} → Register H kind → ℤ → List (Place H)
places_of r n = slice_index_or (objects_over r.ledger.closed r.ledger.spans r.table.now) (unsigned_abs n) []

-- the walk from the last places of two objects, over the stored hulls
abbrev pub WalkStored : {H : Type 0} → (H → Direction → ℤ) → List (Place H) → List (Place H) → Placement → List (ℕ × ℕ) → ℕ → Type 0
WalkStored reaches moved standing p = Walk (PartedStored reaches (hulls_of moved) (hulls_of standing) p) (root (items_of moved)) (root (items_of standing))

-- the arguments of a comparison, as one
abbrev pub comparison : ℤ → ℤ → List ℤ → Comparison
comparison moved standing placement = record { moved = moved; standing = standing; placement = placement }

-- what compare answers
abbrev pub compared : Result (ℕ × ℕ) Refusal → Answer
compared (Ok n) = answer.Listed n.0 n.1
compared (Err why) = answer.Refused why
