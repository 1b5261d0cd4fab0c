-- Hulls with faces: the support values that such a hull keeps, and its reach along a direction.
use Rattle.std.specs.Prelude.{◌≡◌, ℕ, List, [], ◌∷◌, map, take, ℤ, pos, negsuc, ◌+ℤ◌, ◌*ℤ◌, slice_index_or}
use Rattle.std.specs.Int.{int_max}
use Rattle.integers.specs.Rounding.{div_up}
use Rattle.hull.specs.declared.corner.Corner.{Corner}
use Rattle.hull.specs.declared.face.Face.{Face}
use Rattle.hull.specs.declared.face.Weight.{Weight}
use Rattle.hull.specs.Units.{support_unit}
use Rattle.hull.specs.Faces.{faces, place}
use Rattle.hull.specs.Weights.{rounded_up, rounded_down}

-- the product of a face and a corner
abbrev pub product : Face → Corner → ℤ
product f v = f.x *ℤ v.x +ℤ f.y *ℤ v.y +ℤ f.z *ℤ v.z

-- the largest of m and the values of e on the list
abbrev pub largest : {X : Type 0} → (X → ℤ) → ℤ → List X → ℤ
largest e m [] = m
largest e m (x ∷ xs) = largest e (int_max m (e x)) xs

-- d: the largest product of a face with a corner of the list
abbrev pub top : Face → List Corner → ℤ
top f [] = pos 0
top f (v ∷ c) = largest (product f) (product f v) c

-- g: d / 4, rounded up
abbrev pub kept : ℤ → ℤ
kept d = div_up d support_unit

-- n: the weight / 64, rounded up where g ≥ 0, and down where g < 0
abbrev pub rounded : ℕ → ℤ → ℕ
rounded weight (pos g) = rounded_up weight
rounded weight (negsuc g) = rounded_down weight

-- n × g
abbrev pub share : ℕ → ℤ → ℤ
share weight g = pos (rounded weight g) *ℤ g

-- the support value that is kept for a face
abbrev pub support : List ℤ → Face → ℤ
support g f = slice_index_or g (place f) (pos 0)

-- the sum of the values of e on the list
abbrev pub sum_of : {X : Type 0} → (X → ℤ) → List X → ℤ
sum_of e [] = pos 0
sum_of e (x ∷ xs) = e x +ℤ sum_of e xs

-- the reach: the sum of n × g over the weights
unfoldable pub reach_on : List Weight → List ℤ → ℤ
reach_on ws g = sum_of (λ (w : Weight). share w.amount (support g w.on)) ws

-- the unrounded reach: the sum of weight × d over the weights
unfoldable pub unrounded_on : List Weight → List Corner → ℤ
unrounded_on ws c = sum_of (λ (w : Weight). pos w.amount *ℤ top w.on c) ws

-- the larger of two numbers at each place
abbrev pub larger : List ℤ → List ℤ → List ℤ
larger [] hs = []
larger (g ∷ gs) [] = []
larger (g ∷ gs) (h ∷ hs) = int_max g h ∷ larger gs hs

-- the support values of one corner on all faces
unfoldable pub supports : Corner → List ℤ
supports p = map (λ f. kept (product f p)) faces

-- support values with one more corner
unfoldable pub raised : List ℤ → Corner → List ℤ
raised g p = larger g (supports p)

-- the numbers g are the support values of the corner list on the first n faces
unfoldable pub Supports : ℕ → List ℤ → List Corner → Type 0
Supports n g [] = ⊥
Supports n g (v ∷ c) = g ≡ map (λ f. kept (top f (v ∷ c))) (take n faces)
