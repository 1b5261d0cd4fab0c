-- Twelve numbers, one by one.
use Rattle.std.proofs.Common.{◌≡◌, ℕ, zero, suc, ◌+◌, ◌^◌, ◌<◌, ◌≤◌, List, [], ◌∷◌, length, get_or, drop, ℤ, pos, nat_abs, sym, refl, ap, ◌∙◌, subst, ap₂, arith, lit<, w64, SFits, to_z, of_z}
use Rattle.std.proofs.lemmas.List.{drop_all, drop_more}
use Rattle.std.proofs.lemmas.Int.{to_z-of_z}
use Rattle.integers.proofs.Fits.{fits}
use Rattle.hull.specs.Units.{Within}
use Rattle.placement.specs.declared.parts.Placement.{Placement}
use Rattle.placement.specs.Units.{matrix_limit, shift_limit}
use Rattle.placement.specs.Twelve.{InRange, entries}

-- the m elements from place i on
abbrev pub spelled : ℕ → ℕ → List ℤ → List ℤ
spelled zero i n = []
spelled (suc m) i n = get_or n i (pos 0) ∷ spelled m (i + 1) n

spelled_is : (m i : ℕ) (n : List ℤ) → length n ≡ i + m → spelled m i n ≡ drop i n
spelled_is zero i n e = sym (drop_all i n (omega arith))
spelled_is (suc m) i n e =
    ap (λ (t : List ℤ). get_or n i (pos 0) ∷ t) (spelled_is m (i + 1) n (omega arith)) ∙ sym (drop_more n i (pos 0) (omega arith))

pub twelve : (n : List ℤ) → length n ≡ 12 → spelled 12 0 n ≡ n
twelve n e = spelled_is 12 0 n e

-- three numbers from place i on are in a range, as a call is given them
abbrev pub RangeAt : ℕ → ℕ → List ℤ → Type 0
RangeAt m i n = Within m (to_z w64 (of_z w64 (get_or n i (pos 0)))) (to_z w64 (of_z w64 (get_or n (i + 1) (pos 0)))) (to_z w64 (of_z w64 (get_or n (i + 2) (pos 0))))

range_at : (m i : ℕ) (n : List ℤ) → m < 2 ^ 63 → nat_abs (get_or n i (pos 0)) ≤ m → nat_abs (get_or n (i + 1) (pos 0)) ≤ m → nat_abs (get_or n (i + 2) (pos 0)) ≤ m → RangeAt m i n
range_at m i n l hx hy hz =
    let fx = fits w64 (get_or n i (pos 0)) m hx l in
    let fy = fits w64 (get_or n (i + 1) (pos 0)) m hy l in
    let fz = fits w64 (get_or n (i + 2) (pos 0)) m hz l in
    simp to_z-of_z (record { in_x = hx; in_y = hy; in_z = hz })

pub ranges : (n : List ℤ) → length n ≡ 12 → InRange n → RangeAt matrix_limit 0 n × RangeAt matrix_limit 3 n × RangeAt matrix_limit 6 n × RangeAt shift_limit 9 n
unfolding InRange
ranges n e h =
    let k = subst InRange (sym (twelve n e)) h in
    let x = k.0 in
    let y = x.1.1.1 in
    let z = y.1.1.1 in
    let t = k.1 in (
      range_at matrix_limit 0 n (lit< tt) x.0 x.1.0 x.1.1.0,
      range_at matrix_limit 3 n (lit< tt) y.0 y.1.0 y.1.1.0,
      range_at matrix_limit 6 n (lit< tt) z.0 z.1.0 z.1.1.0,
      range_at shift_limit 9 n (lit< tt) t.0 t.1.0 t.1.1.0,
    )

-- three entries are those from place i on
abbrev pub SameAt : ℤ → ℤ → ℤ → ℕ → List ℤ → Type 0
SameAt x y z i n = (x ≡ get_or n i (pos 0)) × (y ≡ get_or n (i + 1) (pos 0)) × (z ≡ get_or n (i + 2) (pos 0))

pub entries_are : (p : Placement) (n : List ℤ) → length n ≡ 12 → SameAt p.x.x p.x.y p.x.z 0 n → SameAt p.y.x p.y.y p.y.z 3 n → SameAt p.z.x p.z.y p.z.z 6 n → SameAt p.shift.x p.shift.y p.shift.z 9 n → entries p ≡ n
entries_are p n e x y z t = row x (row y (row z (row t refl))) ∙ twelve n e
  where
    row : {x y z x' y' z' : ℤ} {xs ys : List ℤ} → (x ≡ x') × (y ≡ y') × (z ≡ z') → xs ≡ ys → x ∷ y ∷ z ∷ xs ≡ x' ∷ y' ∷ z' ∷ ys
    row h k = ap₂ ◌∷◌ h.0 (ap₂ ◌∷◌ h.1 (ap₂ ◌∷◌ h.2 k))

-- the m elements from place i on are words
abbrev pub Words : ℕ → ℕ → List ℤ → Type 0
Words zero i n = Unit
Words (suc m) i n = SFits w64 (get_or n i (pos 0)) × Words m (i + 1) n

-- three entries are those from place i on, as a call is given them
abbrev pub GivenAt : ℤ → ℤ → ℤ → ℕ → List ℤ → Type 0
GivenAt x y z i n = (x ≡ to_z w64 (of_z w64 (get_or n i (pos 0)))) × (y ≡ to_z w64 (of_z w64 (get_or n (i + 1) (pos 0)))) × (z ≡ to_z w64 (of_z w64 (get_or n (i + 2) (pos 0))))

same_at : (x y z : ℤ) (i : ℕ) (n : List ℤ) → SFits w64 (get_or n i (pos 0)) → SFits w64 (get_or n (i + 1) (pos 0)) → SFits w64 (get_or n (i + 2) (pos 0)) → GivenAt x y z i n → SameAt x y z i n
same_at x y z i n a b c h =
    (h.0 ∙ to_z-of_z w64 (get_or n i (pos 0)) a, h.1 ∙ to_z-of_z w64 (get_or n (i + 1) (pos 0)) b, h.2 ∙ to_z-of_z w64 (get_or n (i + 2) (pos 0)) c)

pub entries_given : (p : Placement) (n : List ℤ) → length n ≡ 12 → Words 12 0 n → GivenAt p.x.x p.x.y p.x.z 0 n → GivenAt p.y.x p.y.y p.y.z 3 n → GivenAt p.z.x p.z.y p.z.z 6 n → GivenAt p.shift.x p.shift.y p.shift.z 9 n → entries p ≡ n
entries_given p n e f x y z t =
    let g = f.1.1.1 in
    let h = g.1.1.1 in
    let k = h.1.1.1 in
    entries_are p n e (same_at p.x.x p.x.y p.x.z 0 n f.0 f.1.0 f.1.1.0 x) (same_at p.y.x p.y.y p.y.z 3 n g.0 g.1.0 g.1.1.0 y) (same_at p.z.x p.z.y p.z.z 6 n h.0 h.1.0 h.1.1.0 z) (same_at p.shift.x p.shift.y p.shift.z 9 n k.0 k.1.0 k.1.1.0 t)
