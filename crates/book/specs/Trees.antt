-- A page, and what lies under its items.
use Rattle.std.specs.Prelude.{◌≡◌, ℕ, ◌+◌, ◌-◌, ◌<◌, ◌≤◌, max, Bool, true, false, not, ◌||◌, List, [], ◌∷◌, ◌++◌, map, length, fold, count_by, ◌==◌, slice_index_or}
use Rattle.std.specs.List.{range_with_len}
use Rattle.hull.specs.declared.corner.Corner.{Corner}
use Rattle.book.specs.declared.item.Facet.{Facet}
use Rattle.book.specs.declared.item.Item.{Item}
use Rattle.book.specs.declared.item.Item.TheVariants as item
use Rattle.book.specs.Facets.{facet_of, corners_of}
use Rattle.book.specs.Limits.{height_limit}

-- an item with all that lies under it, each with its number
pub data Tree : Type 0 where
  leaf : ℕ → Facet → Tree
  node : ℕ → Tree → Tree → Tree

-- an item's number
abbrev pub number : Tree → ℕ
number (leaf n f) = n
number (node n t u) = n

-- a facet has height 0, and a tie 1 more than its higher part
abbrev pub height : Tree → ℕ
height (leaf n f) = 0
height (node n t u) = 1 + max (height t) (height u)

-- the corner list: a facet's corners; of a tie the first part's list, then the second's
abbrev pub corners : Tree → List Corner
corners (leaf n f) = corners_of f
corners (node n t u) = corners t ++ corners u

-- no item, where one is asked for past the end of the page
abbrev pub no_tree : Tree
no_tree = leaf 0 (facet_of [])

-- the tree of the item that is written after others
abbrev pub tree_of : List Tree → Item → Tree
tree_of ts (item.Facet f) = leaf (length ts) f
tree_of ts (item.Tie x y) = node (length ts) (slice_index_or ts x no_tree) (slice_index_or ts y no_tree)

-- the trees of a page's items, by number
unfoldable pub trees : List Item → List Tree
trees page = fold (λ ts e. ts ++ tree_of ts e ∷ []) [] page

-- the tree of item i
abbrev pub tree : List Item → ℕ → Tree
tree page i = slice_index_or (trees page) i no_tree

-- the height of item i
unfoldable pub height_at : List Item → ℕ → ℕ
height_at page i = height (tree page i)

-- is item i a part of this item?
abbrev pub ties : Item → ℕ → Bool
ties (item.Facet f) i = false
ties (item.Tie x y) i = x == i || y == i

-- is item i a part of some tie?
unfoldable pub tied : List Item → ℕ → Bool
tied [] i = false
tied (e ∷ page) i = ties e i || tied page i

-- for each item, whether it is tied
unfoldable pub flags : List Item → List Bool
flags page = map (tied page) (range_with_len 0 (length page))

-- how many items no tie has
unfoldable pub untied : List Item → ℕ
untied page = count_by not (flags page)

-- the item with this number
abbrev pub item_at : List Item → ℕ → Item
item_at page i = slice_index_or page i (item.Facet (facet_of []))

-- item i is a part of tie j
pub record Part (page : List Item) (i j : ℕ) : Type 0 where
  pub there : j < length page
  pub part : ties (item_at page j) i ≡ true

-- an item lies under itself, and whatever lies under a part of a tie lies under the tie
pub data Under (page : List Item) : ℕ → ℕ → Type 0 where
  itself : {i : ℕ} → Under page i i
  above : {i j k : ℕ} → Under page i j → Part page j k → Under page i k

-- what every object keeps to
pub record Whole (page : List Item) : Type 0 where
  -- each item lies under the last one
  pub under : (i : ℕ) → i < length page → Under page i (length page - 1)
  -- each item is a part of one tie at most
  pub once : (i j k : ℕ) → Part page i j → Part page i k → j ≡ k
  -- no item is too high
  pub low : (i : ℕ) → i < length page → height_at page i ≤ height_limit
