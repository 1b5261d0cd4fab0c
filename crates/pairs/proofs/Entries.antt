-- Directions by their entries.
use Rattle.std.proofs.Common.{◌≡◌, ◌≤◌, ℤ, nat_abs, sym, ◌∙◌, subst}
use Rattle.hull.specs.declared.direction.Direction.{Direction}
use Rattle.hull.specs.Units.{direction_limit, Within}
use Rattle.hull.proofs.Same.{same_direction}

-- three numbers are the entries of a direction
abbrev pub Entries : ℤ → ℤ → ℤ → Direction → Type 0
Entries x y z u = (x ≡ u.x) × (y ≡ u.y) × (z ≡ u.z)

module _ (u : Direction) {x y z : ℤ} (e : Entries x y z u) where
  -- so they are in its range
  pub in_range : Within direction_limit x y z
  in_range = record { in_x = bound e.0 u.x_in; in_y = bound e.1 u.y_in; in_z = bound e.2 u.z_in }
    where
      bound : {a b : ℤ} → a ≡ b → nat_abs b ≤ direction_limit → nat_abs a ≤ direction_limit
      bound k h = subst (λ (a : ℤ). nat_abs a ≤ direction_limit) (sym k) h

  -- and it is the direction made of them
  pub made_of : (r : Direction) → (r.x ≡ x) × (r.y ≡ y) × (r.z ≡ z) → r ≡ u
  made_of r k = same_direction r u (k.0 ∙ e.0) (k.1 ∙ e.1) (k.2 ∙ e.2)
