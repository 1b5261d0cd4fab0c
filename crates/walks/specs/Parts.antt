-- What a walk goes down to.
use Rattle.std.specs.Prelude.{ℕ, Bool, true, false, List, [], ◌∷◌}
use Rattle.book.specs.declared.item.Item.{Item}
use Rattle.book.specs.declared.item.Item.TheVariants as item

-- are both items facets?
abbrev pub facets? : Item → Item → Bool
facets? (item.Facet e) (item.Facet f) = true
facets? (item.Facet e) (item.Tie x y) = false
facets? (item.Tie x y) (item.Facet f) = false
facets? (item.Tie x y) (item.Tie x' y') = false

-- the item pairs that a pair which is not parted leads to, the last of them to be walked first
abbrev pub below : ℕ → ℕ → Item → Item → List (ℕ × ℕ)
below i j (item.Facet e) (item.Facet f) = []
below i j (item.Facet e) (item.Tie x y) = (i, y) ∷ (i, x) ∷ []
below i j (item.Tie x y) (item.Facet f) = (y, j) ∷ (x, j) ∷ []
below i j (item.Tie x y) (item.Tie x' y') = (y, y') ∷ (y, x') ∷ (x, y') ∷ (x, x') ∷ []
