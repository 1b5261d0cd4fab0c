-- What a comparison answers, and what its list holds then.
use Rattle.std.specs.Prelude.{◌≡◌, ℕ, ◌<◌, ◌≤◌, Bool, true, false, ◌&&◌, List, ◌++◌, length, take, drop, Ok, Err, Result}
use Rattle.placement.specs.declared.parts.Placement.{Placement}
use Rattle.placement.specs.Twelve.{InRange, entries}
use Rattle.book.specs.declared.call.Answer.{Answer}
use Rattle.book.specs.declared.call.Answer.TheVariants.{Listed, Refused}
use Rattle.book.specs.declared.call.Comparison.{Comparison}
use Rattle.book.specs.declared.refusal.Refusal.{Refusal}
use Rattle.book.specs.declared.refusal.Refusal.TheVariants.{NoSuchObject, PlacementOutOfRange, ListFull}
use Rattle.book.specs.Books.{Book, closed}

-- are both numbers those of closed objects?
abbrev pub both_closed : Book → Comparison → Bool
both_closed b c = closed b c.moved && closed b c.standing

-- the list begins with all pairs, and the places after them keep what they held
pub record AllHeld (pairs before after : List (ℕ × ℕ)) : Type 0 where
  pub room : length pairs ≤ length before
  pub is : after ≡ pairs ++ drop (length pairs) before

-- the list has no place for some pair, and holds the first ones
pub record FirstHeld (pairs before after : List (ℕ × ℕ)) : Type 0 where
  pub short : length before < length pairs
  pub is : after ≡ take (length before) pairs

-- what a walk into a list answers, where `Walks pairs tests` says that it adds these pairs and makes so many tests
pub data WalkedInto (Walks : List (ℕ × ℕ) → ℕ → Type 0) (before after : List (ℕ × ℕ)) : Result (ℕ × ℕ) Refusal → Type 0 where
  all : {pairs : List (ℕ × ℕ)} {tests : ℕ} → Walks pairs tests → AllHeld pairs before after → WalkedInto Walks before after (Ok (length pairs, tests))
  first : {pairs : List (ℕ × ℕ)} {tests : ℕ} → Walks pairs tests → FirstHeld pairs before after → WalkedInto Walks before after (Err ListFull)

-- `Walks p pairs tests` says that under the placement p the walk adds these pairs and makes so many tests
module _ (b : Book) (c : Comparison) (Walks : Placement → List (ℕ × ℕ) → ℕ → Type 0) (before after : List (ℕ × ℕ)) where
  pub data Answers : Answer → Type 0 where
    -- a number is not that of a closed object
    no_object : both_closed b c ≡ false → after ≡ before → Answers (Refused NoSuchObject)
    -- a number of the placement is out of its range
    no_placement : both_closed b c ≡ true → (InRange c.placement → ⊥) → after ≡ before → Answers (Refused PlacementOutOfRange)
    -- the list is too short
    no_place : both_closed b c ≡ true → {p : Placement} → entries p ≡ c.placement → {pairs : List (ℕ × ℕ)} {tests : ℕ} → Walks p pairs tests → FirstHeld pairs before after → Answers (Refused ListFull)
    -- all pairs are listed
    listed : both_closed b c ≡ true → {p : Placement} → entries p ≡ c.placement → {pairs : List (ℕ × ℕ)} {tests : ℕ} → Walks p pairs tests → AllHeld pairs before after → Answers (Listed (length pairs) tests)
