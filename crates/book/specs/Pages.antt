-- Pages that come of accepted calls.
use Rattle.std.specs.Prelude.{ℕ, Bool, true, ◌&&◌, List, [], ◌∷◌, ◌++◌, map, ◌==◌}
use Rattle.book.specs.declared.item.Item.{Item}
use Rattle.book.specs.declared.item.Item.TheVariants as item
use Rattle.book.specs.Trees.{height, trees, untied}
use Rattle.book.specs.Books.{joinable, low}

-- may the item come after these?
abbrev pub allowed : List Item → Item → Bool
allowed p (item.Facet f) = true
allowed p (item.Tie x y) = joinable p x y && low p x y

-- may each item come after those before it?
unfoldable pub goes_on : List Item → List Item → Bool
goes_on p [] = true
goes_on p (e ∷ q) = allowed p e && goes_on (p ++ e ∷ []) q

unfoldable pub sane : List Item → Bool
sane page = goes_on [] page

-- and is exactly one item untied?
unfoldable pub complete : List Item → Bool
complete page = sane page && untied page == 1

unfoldable pub all_complete : List (List Item) → Bool
all_complete [] = true
all_complete (o ∷ os) = complete o && all_complete os

-- the heights of a page's items
unfoldable pub heights : List Item → List ℕ
heights page = map height (trees page)
