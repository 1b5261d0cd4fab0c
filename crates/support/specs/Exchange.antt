-- Equal absolute values may change places.
use Rattle.std.specs.Prelude.{◌≡◌, ℕ, List, [], ◌∷◌, ℤ}
use Rattle.std.specs.List.{AllByRecursion}
use Rattle.hull.specs.declared.face.Weight.{Weight}
use Rattle.hull.specs.Weights.{box_weighting, stacked, Falls}
use Rattle.support.specs.Supports.{reach_on}

-- the orders of three weights
abbrev pub orders : List Weight → List (List Weight)
orders [] = []
orders (a ∷ []) = []
orders (a ∷ b ∷ []) = []
orders (a ∷ b ∷ c ∷ []) = (a ∷ b ∷ c ∷ []) ∷ (a ∷ c ∷ b ∷ []) ∷ (b ∷ a ∷ c ∷ []) ∷ (b ∷ c ∷ a ∷ []) ∷ (c ∷ a ∷ b ∷ []) ∷ (c ∷ b ∷ a ∷ []) ∷ []
orders (a ∷ b ∷ c ∷ d ∷ ws) = []

-- whichever order of a direction's weights on the axes puts no absolute value before a larger one, r is the reach over the support values
-- g of the weights that they are arranged to
unfoldable pub InAnyOrderAs : (List Weight → List Weight) → List ℤ → ℤ → ℤ → ℤ → ℤ → Type 0
InAnyOrderAs arranged g x y z r = AllByRecursion (λ ws. (n : ℕ) → Falls n ws → reach_on (arranged ws) g ≡ r) (orders (box_weighting x y z))

-- the same, of weights that are stacked
abbrev pub InAnyOrder : List ℤ → ℤ → ℤ → ℤ → ℤ → Type 0
InAnyOrder g x y z r = InAnyOrderAs stacked g x y z r
