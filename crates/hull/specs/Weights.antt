-- A direction as weights on three faces.
use Rattle.std.specs.Prelude.{ℕ, suc, ◌+◌, ◌-◌, ◌/◌, ◌≤◌, cond, List, [], ◌∷◌, ℤ, pos, negsuc, nat_le, unsigned_abs}
use Rattle.hull.specs.declared.face.Face.{Face}
use Rattle.hull.specs.declared.face.Weight.{Weight}
use Rattle.hull.specs.declared.face.FaceWeight.{FaceWeight}
use Rattle.hull.specs.Units.{direction_limit, weight_unit}
use Rattle.hull.specs.Faces.{face, place, joined, behind}

abbrev pub weight : ℕ → Face → Weight
weight n f = record { amount = n; on = f }

-- the size of an entry, on the axis that its sign picks; 0 takes the positive one
abbrev pub entry : ℤ → Face → Weight
entry (pos n) f = weight n f
entry (negsuc n) f = weight (suc n) (behind f)

-- a direction on the faces of a box: the absolute values, on the axes of its signs
abbrev pub box_weighting : ℤ → ℤ → ℤ → List Weight
box_weighting x y z =
    entry x (face (pos 1) (pos 0) (pos 0)) ∷ entry y (face (pos 0) (pos 1) (pos 0)) ∷ entry z (face (pos 0) (pos 0) (pos 1)) ∷ []

-- the largest amount first
abbrev pub insert : Weight → List Weight → List Weight
insert w [] = w ∷ []
insert w (v ∷ vs) = cond (nat_le v.amount w.amount) (w ∷ v ∷ vs) (v ∷ insert w vs)

abbrev pub sorted : List Weight → List Weight
sorted [] = []
sorted (w ∷ ws) = insert w (sorted ws)

-- what a weight has more than the next one stays on its face; the rest goes to that face and the next one's together
abbrev pub stacked_from : Weight → List Weight → List Weight
stacked_from w [] = w ∷ []
stacked_from w (v ∷ vs) = weight (w.amount - v.amount) w.on ∷ stacked_from (weight v.amount (joined w.on v.on)) vs

abbrev pub stacked : List Weight → List Weight
stacked [] = []
stacked (w ∷ ws) = stacked_from w ws

-- a direction on the 26 faces: with absolute values a ≥ b ≥ c, a - b on a's axis, b - c on the sum of a's and b's, and c on the sum of all
abbrev pub many_weighting : ℤ → ℤ → ℤ → List Weight
many_weighting x y z = stacked (sorted (box_weighting x y z))

-- a weight in units of so many, rounded up and rounded down
abbrev pub rounded_up : ℕ → ℕ
rounded_up w = (w + (weight_unit - 1)) / weight_unit

abbrev pub rounded_down : ℕ → ℕ
rounded_down w = w / weight_unit

-- a weight as a direction keeps it
abbrev pub divided : Weight → FaceWeight
divided w = record { face = place w.on; up = rounded_up w.amount; down = rounded_down w.amount }

-- the sum of a measure over a list
abbrev pub total : {X : Type 0} → (X → ℕ) → List X → ℕ
total m [] = 0
total m (x ∷ xs) = m x + total m xs

-- each weight is at most the one before it, and the first at most n
abbrev pub Falls : ℕ → List Weight → Type 0
Falls n [] = Unit {0}
Falls n (w ∷ ws) = (w.amount ≤ n) × Falls w.amount ws

-- weights on axes of their own, the largest first
pub record Ranked (ws : List Weight) : Type 0 where
  pub falls : Falls direction_limit ws
  pub one_x : total (λ (w : Weight). unsigned_abs w.on.x) ws ≤ 1
  pub one_y : total (λ (w : Weight). unsigned_abs w.on.y) ws ≤ 1
  pub one_z : total (λ (w : Weight). unsigned_abs w.on.z) ws ≤ 1
