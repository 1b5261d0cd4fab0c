-- Records that hold numbers in ranges are the same where their numbers are.
use Rattle.std.proofs.Common.{◌≡◌, ℕ, ◌≤◌, map, ℤ, nat_abs, sym, refl, ap, ◌∙◌, subst}
use mathlib.Core.Path.{Cosingl, contract'}
use native.Mathlib.Bridge.{le_prop}
use Rattle.integers.specs.Roots.{root_up}
use Rattle.hull.specs.declared.direction.Direction.{Direction}
use Rattle.hull.specs.declared.corner.Corner.{Corner}
use Rattle.hull.specs.Units.{corner_limit, direction_limit, squared}
use Rattle.hull.specs.Weights.{box_weighting, many_weighting, divided}
use Rattle.hull.specs.Directions.{direction}

-- of any maker of a record from three numbers in a range
pub same_made : {X : Type 0} (n : ℕ) (made : (x y z : ℤ) → nat_abs x ≤ n → nat_abs y ≤ n → nat_abs z ≤ n → X) (x y z x' y' z' : ℤ) (f : nat_abs x ≤ n) (g : nat_abs y ≤ n) (h : nat_abs z ≤ n) (f' : nat_abs x' ≤ n) (g' : nat_abs y' ≤ n) (h' : nat_abs z' ≤ n) → x ≡ x' → y ≡ y' → z ≡ z' → made x y z f g h ≡ made x' y' z' f' g' h'
same_made n made x y z x' y' z' f g h f' g' h' ex ey ez =
    subst (λ (a : ℤ). (q : nat_abs a ≤ n) → made x y z f g h ≡ made a y z q g h) ex (λ q. ap (λ r. made x y z r g h) (le_prop f q)) f'
    ∙ subst (λ (a : ℤ). (q : nat_abs a ≤ n) → made x' y z f' g h ≡ made x' a z f' q h) ey (λ q. ap (λ r. made x' y z f' r h) (le_prop g q)) g'
    ∙ subst (λ (a : ℤ). (q : nat_abs a ≤ n) → made x' y' z f' g' h ≡ made x' y' a f' g' q) ez (λ q. ap (λ r. made x' y' z f' g' r) (le_prop h q)) h'

-- what a direction carries besides its entries is fixed by them
module _ (u : Direction) where
  filled : Cosingl (map divided (box_weighting u.x u.y u.z)) → Cosingl (map divided (many_weighting u.x u.y u.z)) → Cosingl (root_up (squared u.x u.y u.z)) → Direction
  filled b m r = record { x = u.x; y = u.y; z = u.z; box_weights = b.0; many_weights = m.0; length = r.0; x_in = u.x_in; y_in = u.y_in; z_in = u.z_in; on_box = b.1; on_many = m.1; as_long = r.1 }

  own : direction u.x u.y u.z u.x_in u.y_in u.z_in ≡ u
  unfolding direction filled
  own =
      ap (λ b. filled b (_, refl) (_, refl)) (contract' u.on_box) ∙ ap (λ m. filled (u.box_weights, u.on_box) m (_, refl)) (contract' u.on_many)
      ∙ ap (λ r. filled (u.box_weights, u.on_box) (u.many_weights, u.on_many) r) (contract' u.as_long)

pub same_direction : (u v : Direction) → u.x ≡ v.x → u.y ≡ v.y → u.z ≡ v.z → u ≡ v
same_direction u v ex ey ez =
    sym (own u) ∙ same_made direction_limit direction u.x u.y u.z v.x v.y v.z u.x_in u.y_in u.z_in v.x_in v.y_in v.z_in ex ey ez ∙ own v

pub same_corner : (v w : Corner) → v.x ≡ w.x → v.y ≡ w.y → v.z ≡ w.z → v ≡ w
same_corner v w ex ey ez =
    same_made corner_limit (λ x y z f g h. record { x = x; y = y; z = z; x_in = f; y_in = g; z_in = h }) v.x v.y v.z w.x w.y w.z v.x_in v.y_in v.z_in w.x_in w.y_in w.z_in ex ey ez
