-- Weights in order, and the faces that they stand on.
use Rattle.std.proofs.Common.{◌≡◌, ℕ, ◌+◌, ◌≤◌, Bool, true, false, cond, leb, List, [], ◌∷◌, ℤ, pos, negsuc, ◌+ℤ◌, nat_abs, sym, refl, ap, ◌∙◌, subst, arith}
use Rattle.std.proofs.lemmas.Int.{ints}
use Rattle.std.proofs.lemmas.Bool.{leb-true, leb-false}
use Rattle.std.specs.List.{AllByRecursion}
use Rattle.hull.specs.declared.face.Face.{Face}
use Rattle.hull.specs.declared.face.Weight.{Weight}
use Rattle.hull.specs.Units.{direction_limit}
use Rattle.hull.specs.Faces.{face, behind, joined, Small}
use Rattle.hull.specs.Weights.{entry, box_weighting, insert, sorted, total, Falls, Ranked}

-- ---- sorting keeps every sum over the list
pub total_insert : (m : Weight → ℕ) (w : Weight) (ws : List Weight) → total m (insert w ws) ≡ m w + total m ws
total_insert m w [] = refl
total_insert m w (v ∷ vs) = by (leb v.amount w.amount) (total_insert m w vs)
  where
    by : (t : Bool) → total m (insert w vs) ≡ m w + total m vs → total m (cond t (w ∷ v ∷ vs) (v ∷ insert w vs)) ≡ m w + (m v + total m vs)
    by true r = refl
    by false r = omega (arith, r)

pub total_sorted : (m : Weight → ℕ) (ws : List Weight) → total m (sorted ws) ≡ total m ws
total_sorted m [] = refl
total_sorted m (w ∷ ws) = total_insert m w (sorted ws) ∙ ap (λ (n : ℕ). m w + n) (total_sorted m ws)

-- ---- and puts the largest first
falls_insert : (n : ℕ) (w : Weight) (ws : List Weight) → w.amount ≤ n → Falls n ws → Falls n (insert w ws)
falls_insert n w [] h f = (h, tt)
falls_insert n w (v ∷ vs) h f = by (leb v.amount w.amount) refl (falls_insert v.amount w vs)
  where
    by : (t : Bool) → leb v.amount w.amount ≡ t → (w.amount ≤ v.amount → Falls v.amount vs → Falls v.amount (insert w vs)) → Falls n (cond t (w ∷ v ∷ vs) (v ∷ insert w vs))
    by true e r = (h, (leb-true v.amount w.amount e, f.1))
    by false e r =
        let l = leb-false v.amount w.amount e in
        (f.0, r (omega arith) f.1)

pub falls_sorted : (n : ℕ) (ws : List Weight) → AllByRecursion (λ (w : Weight). w.amount ≤ n) ws → Falls n (sorted ws)
falls_sorted n [] h = tt
falls_sorted n (w ∷ ws) h = falls_insert n w (sorted ws) h.0 (falls_sorted n ws h.1)

-- ---- the weights on the axes
pub size_of : (z : ℤ) (f : Face) → (entry z f).amount ≡ nat_abs z
size_of (pos n) f = refl
size_of (negsuc n) f = refl

-- an entry's face looks along its axis, one way or the other
pub along_axis : (m : Face → ℕ) (z : ℤ) (f : Face) → m (behind f) ≡ m f → m (entry z f).on ≡ m f
along_axis m (pos n) f e = refl
along_axis m (negsuc n) f e = e

-- the axes
abbrev pub ex : Face
ex = face (pos 1) (pos 0) (pos 0)

abbrev pub ey : Face
ey = face (pos 0) (pos 1) (pos 0)

abbrev pub ez : Face
ez = face (pos 0) (pos 0) (pos 1)

pub ranked : (x y z : ℤ) → nat_abs x ≤ direction_limit → nat_abs y ≤ direction_limit → nat_abs z ≤ direction_limit → Ranked (sorted (box_weighting x y z))
ranked x y z hx hy hz = record {
  falls = falls_sorted direction_limit (box_weighting x y z) (bound x ex hx, (bound y ey hy, (bound z ez hz, tt)));
  one_x = one (λ f. nat_abs f.x) refl refl refl refl;
  one_y = one (λ f. nat_abs f.y) refl refl refl refl;
  one_z = one (λ f. nat_abs f.z) refl refl refl refl;
}
  where
    bound : (z : ℤ) (f : Face) → nat_abs z ≤ direction_limit → (entry z f).amount ≤ direction_limit
    bound z f h = subst (λ (n : ℕ). n ≤ direction_limit) (sym (size_of z f)) h

    one : (m : Face → ℕ) → m (behind ex) ≡ m ex → m (behind ey) ≡ m ey → m (behind ez) ≡ m ez → m ex + (m ey + (m ez + 0)) ≡ 1 → total (λ (w : Weight). m w.on) (sorted (box_weighting x y z)) ≤ 1
    one m fx fy fz e =
        let a = along_axis m x ex fx in
        let b = along_axis m y ey fy in
        let c = along_axis m z ez fz in
        omega (arith, total_sorted (λ (w : Weight). m w.on) (box_weighting x y z))

-- ---- the sums of faces on axes of their own
pub small_edge : (p q r : Weight) → Ranked (p ∷ q ∷ r ∷ []) → Small (joined p.on q.on)
small_edge p q r h = record {
  small_x = two p.on.x q.on.x (nat_abs r.on.x + 0) h.one_x;
  small_y = two p.on.y q.on.y (nat_abs r.on.y + 0) h.one_y;
  small_z = two p.on.z q.on.z (nat_abs r.on.z + 0) h.one_z;
}
  where
    two : (a b : ℤ) (n : ℕ) → nat_abs a + (nat_abs b + n) ≤ 1 → nat_abs (a +ℤ b) ≤ 1
    two a b n l = omega (arith, ints)

pub small_tip : (p q r : Weight) → Ranked (p ∷ q ∷ r ∷ []) → Small (joined (joined p.on q.on) r.on)
small_tip p q r h = record {
  small_x = three p.on.x q.on.x r.on.x h.one_x;
  small_y = three p.on.y q.on.y r.on.y h.one_y;
  small_z = three p.on.z q.on.z r.on.z h.one_z;
}
  where
    three : (a b c : ℤ) → nat_abs a + (nat_abs b + (nat_abs c + 0)) ≤ 1 → nat_abs (a +ℤ b +ℤ c) ≤ 1
    three a b c l = omega (arith, ints)
