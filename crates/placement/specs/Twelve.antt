-- The twelve numbers of a placement: the matrix row by row, then the shift.
use Rattle.std.specs.Prelude.{◌≤◌, List, [], ◌∷◌, take, drop, ℕ, ℤ, unsigned_abs}
use Rattle.std.specs.List.{AllByRecursion}
use Rattle.placement.specs.declared.parts.Placement.{Placement}
use Rattle.placement.specs.declared.parts.Triple.{Triple}
use Rattle.placement.specs.Units.{matrix_limit, shift_limit}

-- the numbers of a placement, in their order
abbrev pub entries : Placement → List ℤ
entries p =
    p.x.x ∷ p.x.y ∷ p.x.z ∷ p.y.x ∷ p.y.y ∷ p.y.z ∷ p.z.x ∷ p.z.y ∷ p.z.z ∷ p.shift.x ∷ p.shift.y ∷ p.shift.z ∷ []

-- the numbers of a list are in the ranges of their places
unfoldable pub InRange : List ℤ → Type 0
InRange n = AllByRecursion (λ z. unsigned_abs z ≤ matrix_limit) (take 9 n) × AllByRecursion (λ z. unsigned_abs z ≤ shift_limit) (drop 9 n)

-- those of every placement are
pub in_range : (p : Placement) → InRange (entries p)
unfolding InRange
in_range p = (three p.x (three p.y (three p.z tt)), three p.shift tt)
  where
    three : {n : ℕ} {P : Type 0} (t : Triple n) → P → (unsigned_abs t.x ≤ n) × ((unsigned_abs t.y ≤ n) × ((unsigned_abs t.z ≤ n) × P))
    three t h = (t.x_in, (t.y_in, (t.z_in, h)))
