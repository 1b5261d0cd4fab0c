-- All that is known of the list of an accepted comparison, from a kind's laws.
use Rattle.std.proofs.Common.{◌≡◌, ℕ, ◌*◌, ◌≤◌, true, List, [], ◌∷◌, ◌++◌, length, ℤ, mul-le-mul, arith}
use Rattle.hull.specs.declared.corner.Corner.{Corner}
use Rattle.hull.specs.declared.direction.Direction.{Direction}
use Rattle.hull.specs.Measures.{Spread, Covers, Rounds}
use Rattle.hull.specs.Measures as measure
use Rattle.placement.specs.declared.parts.Placement.{Placement}
use Rattle.book.specs.declared.item.Item.{Item}
use Rattle.book.specs.Pages.{complete}
use Rattle.book.specs.Hulls.{GrownPage}
use Rattle.book.proofs.Wholes.{complete_parts, some_item, whole_from}
use Rattle.walks.specs.Walks.{Walk}
use Rattle.walks.specs.Stored.{PartedStored}
use Rattle.walks.specs.Comparisons.{root, PartedItems, Listing}
use Rattle.walks.proofs.Totals.{tests_few}
use Rattle.walks.proofs.Sizes.{items_few}
use Rattle.walks.proofs.Stored.{walk_grown}
use Rattle.walks.proofs.Soundness as sound

-- what a kind owes
pub record Laws {H : Type 0} (begun : Corner → H) (grown : H → Corner → H) (reaches : H → Direction → ℤ) (fits : H → List Corner → Type 0) (faced : Type 0) (unrounded : List Corner → Direction → ℤ) : Type 0 where
  pub one : (p : Corner) → fits (begun p) (p ∷ [])
  pub another : (h : H) (c : List Corner) (p : Corner) → fits h c → fits (grown h p) (c ++ p ∷ [])
  pub covers : (h : H) (c : List Corner) (u : Direction) → fits h c → Covers (reaches h u) u c
  pub tight : (h : H) (c : List Corner) (u : Direction) (s : ℕ) → fits h c → Spread s c → measure.Tight (reaches h u) u s c
  pub rounds : (h : H) (c : List Corner) (u : Direction) → faced → fits h c → Rounds (reaches h u) (unrounded c u) u

-- there are no more tests than item pairs
pub few_tests : (o q : List Item) → complete o ≡ true → complete q ≡ true → {Parted : _} {pairs : List (ℕ × ℕ)} {tests : ℕ} → Walk Parted (root o) (root q) pairs tests → tests ≤ length o * length q
few_tests o q a b w =
    let m = items_few o (complete_parts o a).0 (some_item o a) in
    let n = items_few q (complete_parts q b).0 (some_item q b) in
    omega (arith, tests_few w, mul-le-mul m n)

module _ {H : Type 0} {begun : Corner → H} {grown : H → Corner → H} {reaches : H → Direction → ℤ} {fits : H → List Corner → Type 0} {faced : Type 0} {unrounded : List Corner → Direction → ℤ} (k : Laws begun grown reaches fits faced unrounded)
    (o q : List Item) (a : complete o ≡ true) (b : complete q ≡ true) (p : Placement) where
  pub listing : {pairs : List (ℕ × ℕ)} {tests : ℕ} → Walk (PartedItems begun grown reaches p) (root o) (root q) pairs tests → Listing begun grown reaches faced unrounded o q p pairs tests
  listing w =
      let good_o = (complete_parts o a).0 in
      let good_q = (complete_parts q b).0 in
      let whole_o = whole_from o a in
      let whole_q = whole_from q b in
      record {
        walk = w;
        few = few_tests o q a b w;
        complete = sound.complete begun grown reaches fits k.one k.another k.covers k.tight o q good_o good_q whole_o whole_q p w (some_item o a) (some_item q b);
        tight = sound.near begun grown reaches fits k.one k.another k.covers k.tight o q good_o good_q whole_o whole_q p w (some_item o a) (some_item q b);
        exact = λ has. sound.exact begun grown reaches fits k.one k.another k.covers k.tight o q good_o good_q whole_o whole_q p w faced unrounded k.rounds has (some_item o a) (some_item q b);
      }

  -- of a walk over the stored hulls
  pub stored_listing : (hs ks : List H) → length hs ≡ length o → length ks ≡ length q → GrownPage begun grown o hs → GrownPage begun grown q ks → {pairs : List (ℕ × ℕ)} {tests : ℕ} → Walk (PartedStored reaches hs ks p) (root o) (root q) pairs tests → Listing begun grown reaches faced unrounded o q p pairs tests
  stored_listing hs ks m n g h w = listing (walk_grown begun grown reaches o q (complete_parts o a).0 (complete_parts q b).0 (some_item o a) (some_item q b) hs ks m n g h p w)
