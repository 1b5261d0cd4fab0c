-- Corners and the numbers that they are made of.
use Rattle.std.proofs.Common.{◌≡◌, ◌≤◌, true, false, ◌&&◌, ℤ, nat_abs, sym, ◌∙◌, subst, ⊎_elim}
use Rattle.std.proofs.lemmas.Bool.{cases_Bool, and_from, and_parts, le-leb, leb-true, cond-true}
use Rattle.hull.specs.Units.{corner_limit, Within}
use Rattle.hull.specs.declared.corner.Corner.{Corner}
use Rattle.hull.proofs.Same.{same_made}
use Rattle.book.specs.Facets.{fits, fits_corner, entry, entry_fits, corner}

fits_since : (m n : ℤ) → nat_abs m ≤ corner_limit → m ≡ n → fits n ≡ true
fits_since m n h e = le-leb (nat_abs n) corner_limit (subst (λ (k : ℤ). nat_abs k ≤ corner_limit) e h)

entry_is : (n : ℤ) → fits n ≡ true → entry n ≡ n
unfolding entry
entry_is n h = cond-true (fits n) n _ h

maker : (x y z : ℤ) → nat_abs x ≤ corner_limit → nat_abs y ≤ corner_limit → nat_abs z ≤ corner_limit → Corner
maker x y z f g h = record { x = x; y = y; z = z; x_in = f; y_in = g; z_in = h }

module _ (p : Corner) (x y z : ℤ) (ex : p.x ≡ x) (ey : p.y ≡ y) (ez : p.z ≡ z) where
  fits_x : fits x ≡ true
  fits_x = fits_since p.x x p.x_in ex

  fits_y : fits y ≡ true
  fits_y = fits_since p.y y p.y_in ey

  fits_z : fits z ≡ true
  fits_z = fits_since p.z z p.z_in ez

  pub corner_fits : fits_corner x y z ≡ true
  corner_fits = and_from (fits x) _ fits_x (and_from (fits y) (fits z) fits_y fits_z)

  pub corner_is : p ≡ corner x y z
  unfolding corner maker
  corner_is = same_made corner_limit maker p.x p.y p.z (entry x) (entry y) (entry z) p.x_in p.y_in p.z_in (entry_fits x) (entry_fits y) (entry_fits z)
      (ex ∙ sym (entry_is x fits_x)) (ey ∙ sym (entry_is y fits_y)) (ez ∙ sym (entry_is z fits_z))

pub out_of_range : (x y z : ℤ) → (Within corner_limit x y z → ⊥) → fits_corner x y z ≡ false
out_of_range x y z not = ⊎_elim
    (λ (e : fits_corner x y z ≡ true).
    let q = and_parts (fits x) (fits y && fits z) e in
    let r = and_parts (fits y) (fits z) q.1 in
    absurd (not (record { in_x = leb-true _ _ q.0; in_y = leb-true _ _ r.0; in_z = leb-true _ _ r.1 })))
    (λ e. e)
    (cases_Bool (fits_corner x y z))
