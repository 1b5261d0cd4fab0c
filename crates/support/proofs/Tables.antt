-- The support values of a hull as a table that code fills.
use Rattle.std.proofs.Common.{◌≡◌, ℕ, zero, suc, ◌+◌, ◌<◌, ◌≤◌, Bool, true, ◌&&◌, leb, List, [], ◌∷◌, ◌++◌, length, get_or, take, drop, set, replicate, ℤ, pos, negsuc, nat_abs, refl, ap, ◌∙◌, ap₂, le_of_suc-le-suc, add-one, arith}
use borrow.Author.Differences.{ints}
use Rattle.std.specs.Int.{int_max}
use Rattle.std.proofs.lemmas.Bool.{and_parts, leb-true}
use Rattle.std.specs.List.{AllByRecursion}
use Rattle.std.proofs.ByRecursion.{All-get_or, All-map}
use Rattle.std.proofs.lemmas.List.{append-nil, take_all, drop_all, get_or-map, length-map}
use Rattle.std.proofs.lemmas.Int.{clamps}
use Rattle.hull.specs.declared.corner.Corner.{Corner}
use Rattle.hull.specs.declared.face.Face.{Face}
use Rattle.hull.specs.Faces.{faces, no_face, Small}
use Rattle.support.specs.Supports.{product, kept, larger, supports, raised}
use Rattle.support.proofs.Tops.{kept_small}

-- ---- every face of the list has small entries
abbrev small_test : Face → Bool
small_test f = leb (nat_abs f.x) 1 && (leb (nat_abs f.y) 1 && leb (nat_abs f.z) 1)

abbrev every : (Face → Bool) → List Face → Bool
every t [] = true
every t (f ∷ fs) = t f && every t fs

small_from : (fs : List Face) → every small_test fs ≡ true → AllByRecursion Small fs
small_from [] t = tt
small_from (f ∷ fs) t =
    let s = and_parts (small_test f) (every small_test fs) t in
    let x = and_parts (leb (nat_abs f.x) 1) (leb (nat_abs f.y) 1 && leb (nat_abs f.z) 1) s.0 in
    let y = and_parts (leb (nat_abs f.y) 1) (leb (nat_abs f.z) 1) x.1 in
    (record { small_x = leb-true (nat_abs f.x) 1 x.0; small_y = leb-true (nat_abs f.y) 1 y.0; small_z = leb-true (nat_abs f.z) 1 y.1 }, small_from fs s.1)

pub small_at : (i : ℕ) → i < 26 → Small (get_or faces i no_face)
small_at i h = All-get_or Small faces i no_face h (small_from faces refl)

-- ---- one support value
pub support_at : (p : Corner) (i : ℕ) → i < 26 → get_or (supports p) i (pos 0) ≡ kept (product (get_or faces i no_face) p)
unfolding supports
support_at p i h = get_or-map (λ f. kept (product f p)) faces i no_face (pos 0) h

-- ---- a loop that raises one value after the other
-- the first i values of g are raised
abbrev pub raised_to : ℕ → List ℤ → List ℤ → List ℤ
raised_to i g s = larger (take i g) s ++ drop i g

pub raised_read : (i : ℕ) (g s : List ℤ) → i < length g → length g ≤ length s → get_or (raised_to i g s) i (pos 0) ≡ get_or g i (pos 0)
raised_read i [] s h l = absurd (omega arith)
raised_read i (x ∷ g) [] h l = absurd (omega arith)
raised_read zero (x ∷ g) (y ∷ s) h l = refl
raised_read (suc i) (x ∷ g) (y ∷ s) h l = raised_read i g s (le_of_suc-le-suc h) (le_of_suc-le-suc l)

pub raised_more : (i : ℕ) (g s : List ℤ) → i < length g → length g ≤ length s → set (raised_to i g s) i (int_max (get_or g i (pos 0)) (get_or s i (pos 0))) ≡ raised_to (i + 1) g s
raised_more i g s h l = rw add-one (go i g s h l)
  where
    go : (i : ℕ) (g s : List ℤ) → i < length g → length g ≤ length s → set (raised_to i g s) i (int_max (get_or g i (pos 0)) (get_or s i (pos 0))) ≡ raised_to (suc i) g s
    go i [] s h l = absurd (omega arith)
    go i (x ∷ g) [] h l = absurd (omega arith)
    go zero (x ∷ g) (y ∷ s) h l = refl
    go (suc i) (x ∷ g) (y ∷ s) h l = ap (λ (k : List ℤ). int_max x y ∷ k) (go i g s (le_of_suc-le-suc h) (le_of_suc-le-suc l))

pub raised_all : (i : ℕ) (g : List ℤ) (p : Corner) → length g ≤ i → raised_to i g (supports p) ≡ raised g p
unfolding raised
raised_all i g p h = ap₂ (λ (a b : List ℤ). larger a (supports p) ++ b) (take_all i g h) (drop_all i g h) ∙ append-nil (larger g (supports p))

pub supports_length : (p : Corner) → length (supports p) ≡ 26
unfolding supports
supports_length p = length-map faces (λ f. kept (product f p))

-- ---- the first corner
-- below every support value
abbrev pub lowest : ℤ
lowest = negsuc 32767

pub larger_lowest : (n : ℕ) (s : List ℤ) → AllByRecursion (λ z. nat_abs z < 32768) s → larger (replicate n lowest) s ≡ take n s
larger_lowest zero s h = refl
larger_lowest (suc n) [] h = refl
larger_lowest (suc n) (z ∷ s) h = ap₂ ◌∷◌ (above z h.0) (larger_lowest n s h.1)
  where
    above : (z : ℤ) → nat_abs z < 32768 → int_max lowest z ≡ z
    above z l = omega (arith, ints, clamps)

pub raised_lowest : (n : ℕ) (p : Corner) → raised (replicate n lowest) p ≡ take n (supports p)
unfolding raised supports
raised_lowest n p = larger_lowest n (supports p) (All-map (λ z. nat_abs z < 32768) (λ f. kept (product f p)) faces (small faces (small_from faces refl)))
  where
    small : (fs : List Face) → AllByRecursion Small fs → AllByRecursion (λ f. nat_abs (kept (product f p)) < 32768) fs
    small [] h = tt
    small (f ∷ fs) h = let k = kept_small f p [] in let s = h.0 in (omega arith, small fs h.1)
