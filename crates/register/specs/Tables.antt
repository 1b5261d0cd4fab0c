-- A table, field by field.
use Rattle.std.specs.Prelude.{◌≡◌, ℕ, ◌+◌, Bool, true, false, List, [], ◌∷◌, map, length, ℤ, pos, fold, sum_by, slice_index_or, slice_set}
use Rattle.hull.specs.declared.corner.Corner.{Corner}
use Rattle.book.specs.declared.item.Facet.{Facet}
use Rattle.book.specs.declared.item.Item.{Item}
use Rattle.book.specs.declared.item.Item.TheVariants as item
use Rattle.book.specs.Trees.{tree, corners}
use Rattle.book.specs.Books.{Book, written, stored, joinable, height_of_tie}
use Rattle.register.specs.declared.place.Place.{Place}

unfoldable pub items_of : {H : Type 0} → List (Place H) → List Item
items_of {H} t = map (λ (p : Place H). p.item) t

unfoldable pub heights_of : {H : Type 0} → List (Place H) → List ℕ
heights_of {H} t = map (λ (p : Place H). p.height) t

unfoldable pub tieds_of : {H : Type 0} → List (Place H) → List Bool
tieds_of {H} t = map (λ (p : Place H). p.tied) t

unfoldable pub hulls_of : {H : Type 0} → List (Place H) → List H
hulls_of {H} t = map (λ (p : Place H). p.hull) t

-- one place has a new item and its hull, and every other place keeps both
pub record Wrote {H : Type 0} (before after : List (Place H)) (at : ℕ) (e : Item) : Type 0 where
  pub hull : H
  pub items : items_of after ≡ slice_set (items_of before) at e
  pub hulls : hulls_of after ≡ slice_set (hulls_of before) at hull

-- the place of a facet, with the hull that grows from its corners
abbrev pub facet_place : {H : Type 0} → (Corner → H) → (H → Corner → H) → Facet → Place H
facet_place begun grown f = record { item = item.Facet f; height = 0; tied = false; hull = fold grown (begun f.a) (f.b ∷ f.c ∷ []) }

-- the place of a tie of items x and y of the page, with the hull of x grown over the corner list of y
abbrev pub tie_place : {H : Type 0} → (H → Corner → H) → List Item → H → ℕ → ℕ → Place H
tie_place grown page hull x y = record { item = item.Tie x y; height = height_of_tie page x y; tied = false; hull = fold grown hull (corners (tree page y)) }

-- two items are tied by a new one: its place is written, theirs are flagged, and every other place keeps what it holds
pub record Joined {H : Type 0} (before after : List (Place H)) (i j at : ℕ) (p : Place H) : Type 0 where
  pub items : items_of after ≡ slice_set (items_of before) at p.item
  pub heights : heights_of after ≡ slice_set (heights_of before) at p.height
  pub tieds : tieds_of after ≡ slice_set (slice_set (slice_set (tieds_of before) i true) j true) at p.tied
  pub hulls : hulls_of after ≡ slice_set (hulls_of before) at p.hull

-- where item x of the draft stands: after the items of all objects
abbrev pub place_of : Book → ℕ → ℕ
place_of b x = sum_by length b.objects + x

-- the facet stands at the first free place, and every other place is as it was
abbrev pub FacetStands : {H : Type 0} → (Corner → H) → (H → Corner → H) → Facet → Book → List (Place H) → List (Place H) → Type 0
FacetStands begun grown f b before after = after ≡ slice_set before (stored b) (facet_place begun grown f)

-- the tie of items x and y stands at the first free place, the two are flagged, and every other place is as it was; d, for past the end of the table, is never read
abbrev pub TieStands : {H : Type 0} → (H → Corner → H) → ℕ → ℕ → Book → List (Place H) → List (Place H) → Type 0
TieStands {H} grown x y b before after =
    (d : H) → Joined before after (place_of b x) (place_of b y) (stored b) (tie_place grown (written b.page) (slice_index_or (hulls_of before) (place_of b x) d) x y)

-- the two numbers are those of items that may be tied
pub record FreeParts (page : List Item) (x y : ℤ) (i j : ℕ) : Type 0 where
  pub x_is : x ≡ pos i
  pub y_is : y ≡ pos j
  pub free : joinable page i j ≡ true
