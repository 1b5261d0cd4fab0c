-- What the list of a comparison says of the facets of a moved object o and a standing object q under a placement p.
use Rattle.std.specs.Prelude.{◌≡◌, ℕ, ◌+◌, ◌-◌, ◌*◌, ◌<◌, ◌≤◌, List, length, ℤ, fold}
use mathlib.Core.List.{Memᴰ}
use Rattle.std.specs.List.{ContainsAt as Has, AllByRecursion}
use Rattle.hull.specs.declared.corner.Corner.{Corner}
use Rattle.hull.specs.declared.direction.Direction.{Direction}
use Rattle.hull.specs.Units.{slack, rounding}
use Rattle.hull.specs.Measures.{Spread}
use Rattle.placement.specs.declared.parts.Placement.{Placement}
use Rattle.pairs.specs.Records.{Axis}
use Rattle.pairs.specs.Products.{apart}
use Rattle.pairs.specs.Axes.{axes_under}
use Rattle.pairs.specs.Directions.{moved_size, standing_size}
use Rattle.pairs.specs.Gaps.{Parts, GapsWithin, Parted, unrounded_axis}
use Rattle.pairs.specs.Facets.{SharesPoint}
use Rattle.pairs.specs.Facets as shape
use Rattle.book.specs.declared.item.Facet.{Facet}
use Rattle.book.specs.declared.item.Item.{Item}
use Rattle.book.specs.declared.item.Item.TheVariants as item
use Rattle.book.specs.Facets.{corners_of}
use Rattle.book.specs.Trees.{Tree, leaf, node, corners, tree, item_at, Under}
use Rattle.walks.specs.Walks.{Walk, Once}

-- item m of the object is the facet f
pub record IsFacet (o : List Item) (m : ℕ) (f : Facet) : Type 0 where
  pub there : m < length o
  pub is : item_at o m ≡ item.Facet f

-- an object's last item, with all that lies under it
abbrev pub root : List Item → Tree
root o = tree o (length o - 1)

-- a facet as three corners
abbrev pub triangle : Facet → shape.Facet
triangle f = record { v0 = f.a; v1 = f.b; v2 = f.c }

module _ {H : Type 0} (begun : Corner → H) (grown : H → Corner → H) (reaches : H → Direction → ℤ) where
  -- the hull that grows from an item's corner list
  abbrev pub hull_over : Tree → H
  hull_over (leaf n f) = grown (grown (begun f.a) f.b) f.c
  hull_over (node n t u) = fold grown (hull_over t) (corners u)

  -- some axis of the placement parts the hulls of two items
  abbrev pub PartedItems : Placement → Tree → Tree → Type 0
  PartedItems p t u = Parted (reaches (hull_over t)) (reaches (hull_over u)) p

module _ (o q : List Item) (p : Placement) (pairs : List (ℕ × ℕ)) where
  -- no pair that touches is missing
  pub record Complete : Type 0 where
    pub shared : (m n : ℕ) (e f : Facet) → IsFacet o m e → IsFacet q n f → SharesPoint p (triangle e) (triangle f) → Memᴰ (m, n) pairs
    pub once : Once pairs

  -- what is listed is a pair of facets whose corners are near along each axis
  pub record Tight : Type 0 where
    pub facets : (m n : ℕ) → Memᴰ (m, n) pairs → (e : Facet) × (f : Facet) × IsFacet o m e × IsFacet q n f
    pub near : (m n : ℕ) (e f : Facet) → Memᴰ (m, n) pairs → IsFacet o m e → IsFacet q n f → (s t : ℕ) → Spread s (corners_of e) → Spread t (corners_of f) → AllByRecursion (λ l. AllByRecursion (λ v. AllByRecursion (λ w. apart p l v w ≤ 3 * (moved_size p l * (s + 8)) + 3 * (standing_size l * (t + 8)) + 2 * slack) (corners_of f)) (corners_of e)) (axes_under p)

  -- with unrounded reaches
  module _ (unrounded : List Corner → Direction → ℤ) where
    -- items i and j above facets m and n whose unrounded hulls some axis parts
    pub record PartedAbove (m n : ℕ) : Type 0 where
      pub i : ℕ
      pub j : ℕ
      pub above_m : Under o m i
      pub above_n : Under q n j
      pub axis : Axis
      pub its : Has (axes_under p) axis
      pub parts : Parts (unrounded (corners (tree o i))) (unrounded (corners (tree q j))) (unrounded_axis p axis)

    pub record Exact : Type 0 where
      -- what is left out lies under items whose unrounded hulls are parted
      pub left_out : (m n : ℕ) (e f : Facet) → IsFacet o m e → IsFacet q n f → (Memᴰ (m, n) pairs → ⊥) → PartedAbove m n
      -- and the unrounded hulls of what is listed are near along each axis
      pub close : (m n : ℕ) (e f : Facet) → Memᴰ (m, n) pairs → IsFacet o m e → IsFacet q n f → AllByRecursion (λ l. GapsWithin (2 * rounding + 3 * (moved_size p l + standing_size l)) (unrounded (corners_of e)) (unrounded (corners_of f)) (unrounded_axis p l)) (axes_under p)

-- all that is known of the list of an accepted comparison
module _ {H : Type 0} (begun : Corner → H) (grown : H → Corner → H) (reaches : H → Direction → ℤ) (faced : Type 0) (unrounded : List Corner → Direction → ℤ) where
  pub record Listing (o q : List Item) (p : Placement) (pairs : List (ℕ × ℕ)) (tests : ℕ) : Type 0 where
    pub walk : Walk (PartedItems begun grown reaches p) (root o) (root q) pairs tests
    pub few : tests ≤ length o * length q
    pub complete : Complete o q p pairs
    pub tight : Tight o q p pairs
    pub exact : faced → Exact o q p pairs unrounded
