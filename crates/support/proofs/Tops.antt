-- The largest product of a face with a corner of a list.
use Rattle.std.proofs.Common.{◌≡◌, ℕ, zero, suc, ◌+◌, ◌*◌, ◌≤◌, Bool, true, false, cond, List, [], ◌∷◌, ◌++◌, map, take, ℤ, pos, ◌+ℤ◌, ◌-ℤ◌, ◌*ℤ◌, nat_abs, ◌≤ℤ◌, sym, refl, ap, ◌∙◌, subst, arith}
use mathlib.Core.Path.{fun_ext}
use native.Mathlib.Nat as NatL
use borrow.Author.Differences.{ints}
use lib.Signed.{lt_z, ≤ℤ_refl}
use Rattle.std.specs.Int.{int_max}
use Rattle.std.specs.List.{AllByRecursion}
use Rattle.std.proofs.lemmas.Int.{clamps}
use Rattle.std.proofs.ByRecursion.{All-weaker}
use Rattle.std.proofs.lemmas.List.{take-map}
use Rattle.integers.proofs.Laws.{mul_sub}
use Rattle.integers.proofs.Order.{le_trans, small_mul, small_add}
use Rattle.hull.specs.declared.corner.Corner.{Corner}
use Rattle.hull.specs.declared.face.Face.{Face}
use Rattle.hull.specs.Units.{corner_limit, support_limit}
use Rattle.hull.specs.Faces.{faces, rank}
use Rattle.hull.specs.Measures.{Near}
use Rattle.support.specs.Supports.{product, largest, top, kept, larger, supports, raised, Supports}
use Rattle.support.proofs.Shares.{kept_bounds}

-- ---- the largest value on a list
max_left : (a b : ℤ) → a ≤ℤ int_max a b
max_left a b = omega (arith, ints, clamps)

max_right : (a b : ℤ) → b ≤ℤ int_max a b
max_right a b = omega (arith, ints, clamps)

module _ {X : Type 0} (e : X → ℤ) where
  pub largest_from : (m : ℤ) (xs : List X) → m ≤ℤ largest e m xs
  largest_from m [] = ≤ℤ_refl m
  largest_from m (x ∷ xs) = le_trans m (int_max m (e x)) (largest e m (x ∷ xs)) (max_left m (e x)) (largest_from (int_max m (e x)) xs)

  pub largest_over : (m : ℤ) (xs : List X) → AllByRecursion (λ x. e x ≤ℤ largest e m xs) xs
  largest_over m [] = tt
  largest_over m (x ∷ xs) =
      (le_trans (e x) (int_max m (e x)) (largest e m (x ∷ xs)) (max_right m (e x)) (largest_from (int_max m (e x)) xs), largest_over (int_max m (e x)) xs)

  -- it has whatever all values have
  pub largest_has : (P : ℤ → Type 0) (m : ℤ) (xs : List X) → P m → AllByRecursion (λ x. P (e x)) xs → P (largest e m xs)
  largest_has P m [] p h = p
  largest_has P m (x ∷ xs) p h = largest_has P (int_max m (e x)) xs (either (lt_z (e x) m)) h.1
    where
      either : (t : Bool) → P (cond t m (e x))
      either true = p
      either false = h.0

  pub largest_push : (m : ℤ) (xs : List X) (x : X) → largest e m (xs ++ x ∷ []) ≡ int_max (largest e m xs) (e x)
  largest_push m [] x = refl
  largest_push m (y ∷ xs) x = largest_push (int_max m (e y)) xs x

-- ---- one more corner
-- the larger of rounded-up numbers is the rounded-up larger
kept_max : (a b : ℤ) → int_max (kept a) (kept b) ≡ kept (int_max a b)
kept_max a b = by (lt_z b a) refl
  where
    by : (t : Bool) → lt_z b a ≡ t → int_max (kept a) (kept b) ≡ kept (cond t a b)
    by true e = omega (arith, ints, clamps, (kept_bounds a).0, (kept_bounds a).1, (kept_bounds b).0, (kept_bounds b).1)
    by false e = omega (arith, ints, clamps, (kept_bounds a).0, (kept_bounds a).1, (kept_bounds b).0, (kept_bounds b).1)

pub supports_one : (n : ℕ) (p : Corner) → Supports n (take n (supports p)) (p ∷ [])
unfolding Supports supports
supports_one n p = take-map (λ f. kept (product f p)) n faces

larger_map : (a b : Face → ℤ) (n : ℕ) (fs : List Face) → larger (map a (take n fs)) (map b fs) ≡ map (λ f. int_max (a f) (b f)) (take n fs)
larger_map a b zero fs = refl
larger_map a b (suc n) [] = refl
larger_map a b (suc n) (f ∷ fs) = ap (λ (gs : List ℤ). int_max (a f) (b f) ∷ gs) (larger_map a b n fs)

pub supports_more : (n : ℕ) (g : List ℤ) (c : List Corner) (p : Corner) → Supports n g c → Supports n (raised g p) (c ++ p ∷ [])
unfolding Supports raised supports
supports_more n g [] p h = absurd h
supports_more n g (v ∷ c) p h =
    ap (λ (k : List ℤ). larger k (supports p)) h ∙ larger_map (λ f. kept (top f (v ∷ c))) (λ f. kept (product f p)) n faces
    ∙ ap (λ (k : Face → ℤ). map k (take n faces)) (fun_ext (λ f. kept_max (top f (v ∷ c)) (product f p) ∙ ap kept (sym (largest_push (product f) (product f v) c p))))

-- ---- a face and the corners of a list
small_product : (f : Face) (v : Corner) → nat_abs (product f v) ≤ rank f * corner_limit
small_product f v =
    let x = small_mul f.x v.x (nat_abs f.x) corner_limit (NatL.le_refl (nat_abs f.x)) v.x_in in
    let y = small_mul f.y v.y (nat_abs f.y) corner_limit (NatL.le_refl (nat_abs f.y)) v.y_in in
    let z = small_mul f.z v.z (nat_abs f.z) corner_limit (NatL.le_refl (nat_abs f.z)) v.z_in in
    let xy = small_add (f.x *ℤ v.x) (f.y *ℤ v.y) (nat_abs f.x * corner_limit) (nat_abs f.y * corner_limit) x y in
    let xyz = small_add (f.x *ℤ v.x +ℤ f.y *ℤ v.y) (f.z *ℤ v.z) (nat_abs f.x * corner_limit + nat_abs f.y * corner_limit) (nat_abs f.z * corner_limit) xy z in
    omega arith

-- over bare numbers: a product of an entry with the difference of two others
step : (a b d : ℤ) (s : ℕ) → nat_abs (b -ℤ d) ≤ s → (a *ℤ b) ≤ℤ (a *ℤ d +ℤ pos (nat_abs a * s))
step a b d s h = shift (a *ℤ b) (a *ℤ d) (nat_abs a * s) (subst (λ (z : ℤ). nat_abs z ≤ nat_abs a * s) (mul_sub a b d) (small_mul a (b -ℤ d) (nat_abs a) s (NatL.le_refl (nat_abs a)) h))
  where
    shift : (p q : ℤ) (n : ℕ) → nat_abs (p -ℤ q) ≤ n → p ≤ℤ (q +ℤ pos n)
    shift p q n h = omega (arith, ints)

near_product : (f : Face) (s : ℕ) (v w : Corner) → Near s v w → product f w ≤ℤ (product f v +ℤ pos (rank f * s))
near_product f s v w h =
    add3 (f.x *ℤ w.x) (f.y *ℤ w.y) (f.z *ℤ w.z) (f.x *ℤ v.x) (f.y *ℤ v.y) (f.z *ℤ v.z) (nat_abs f.x * s) (nat_abs f.y * s) (nat_abs f.z * s) (rank f * s)
    (step f.x w.x v.x s (back v.x w.x h.near_x)) (step f.y w.y v.y s (back v.y w.y h.near_y)) (step f.z w.z v.z s (back v.z w.z h.near_z))
    (rows (nat_abs f.x) (nat_abs f.y) (nat_abs f.z))
  where
    back : (a b : ℤ) → nat_abs (a -ℤ b) ≤ s → nat_abs (b -ℤ a) ≤ s
    back a b h = omega (arith, ints)

    rows : (a b d : ℕ) → a * s + b * s + d * s ≡ (a + b + d) * s
    rows a b d = omega (arith, NatL.add-mul (a + b) d s, NatL.add-mul a b s)

    add3 : (a b d x y z : ℤ) (l m n k : ℕ) → a ≤ℤ (x +ℤ pos l) → b ≤ℤ (y +ℤ pos m) → d ≤ℤ (z +ℤ pos n) → l + m + n ≡ k → (a +ℤ b +ℤ d) ≤ℤ (x +ℤ y +ℤ z +ℤ pos k)
    add3 a b d x y z l m n k f g h e = omega (arith, ints)

-- d bounds the product with each corner
pub top_over : (f : Face) (c : List Corner) → AllByRecursion (λ v. product f v ≤ℤ top f c) c
top_over f [] = tt
top_over f (v ∷ c) = (largest_from (product f) (product f v) c, largest_over (product f) (product f v) c)

-- and passes none by more than the spread allows
pub top_near : (f : Face) (s : ℕ) (v : Corner) (p : Corner) (c : List Corner) → AllByRecursion (Near s v) (p ∷ c) → top f (p ∷ c) ≤ℤ (product f v +ℤ pos (rank f * s))
top_near f s v p c h =
    largest_has (product f) (λ z. z ≤ℤ (product f v +ℤ pos (rank f * s))) (product f p) c (near_product f s v p h.0)
    (All-weaker (Near s v) (λ w. product f w ≤ℤ (product f v +ℤ pos (rank f * s))) (λ w l. near_product f s v w l) c h.1)

-- g is small
pub kept_small : (f : Face) (p : Corner) (c : List Corner) → nat_abs (kept (top f (p ∷ c))) ≤ rank f * support_limit
kept_small f p c = quarter (top f (p ∷ c)) (rank f) (largest_has (product f) (λ z. nat_abs z ≤ rank f * corner_limit) (product f p) c (small_product f p) (every c))
  where
    every : (c : List Corner) → AllByRecursion (λ v. nat_abs (product f v) ≤ rank f * corner_limit) c
    every [] = tt
    every (v ∷ c) = (small_product f v, every c)

    quarter : (d : ℤ) (k : ℕ) → nat_abs d ≤ k * corner_limit → nat_abs (kept d) ≤ k * support_limit
    quarter d k h = omega (arith, ints, (kept_bounds d).0, (kept_bounds d).1)
