-- A facet and its nine numbers.
use Rattle.std.specs.Prelude.{◌≤◌, List, [], ◌∷◌, ℤ, unsigned_abs}
use Rattle.std.specs.List.{AllByRecursion}
use Rattle.hull.specs.declared.corner.Corner.{Corner}
use Rattle.hull.specs.Units.{corner_limit}
use Rattle.book.specs.declared.item.Facet.{Facet}
use Rattle.book.specs.Facets.{corners_of}

-- the corners of a facet, in their order
abbrev pub corners : Facet → List Corner
corners = corners_of

-- the numbers of a facet, in their order
abbrev pub entries : Facet → List ℤ
entries f = f.a.x ∷ f.a.y ∷ f.a.z ∷ f.b.x ∷ f.b.y ∷ f.b.z ∷ f.c.x ∷ f.c.y ∷ f.c.z ∷ []

-- the numbers of a list are in the range of a corner's
unfoldable pub InRange : List ℤ → Type 0
InRange n = AllByRecursion (λ z. unsigned_abs z ≤ corner_limit) n
