-- The list of faces, by tests that are computed at all entries -1, 0 and 1.
use Rattle.std.proofs.Common.{◌≡◌, ℕ, zero, suc, ◌≤◌, Bool, true, ◌&&◌, eqb, List, [], ◌∷◌, get_or, ℤ, pos, negsuc, ◌+ℤ◌, nat_abs, refl, arith}
use Rattle.std.proofs.lemmas.Bool.{and_parts, eqb-true}
use Rattle.hull.specs.declared.face.Face.{Face}
use Rattle.hull.specs.Faces.{face, place, Small}

-- a test that passes at -1, 0 and 1
abbrev pub all3 : (ℤ → Bool) → Bool
all3 t = t (negsuc 0) && (t (pos 0) && t (pos 1))

at3 : (t : ℤ → Bool) → all3 t ≡ true → (z : ℤ) → nat_abs z ≤ 1 → t z ≡ true
at3 t p z h =
    let q = and_parts (t (negsuc 0)) (t (pos 0) && t (pos 1)) p in
    let r = and_parts (t (pos 0)) (t (pos 1)) q.1 in
    by z h q.0 r.0 r.1
  where
    by : (z : ℤ) → nat_abs z ≤ 1 → t (negsuc 0) ≡ true → t (pos 0) ≡ true → t (pos 1) ≡ true → t z ≡ true
    by (pos zero) h a b c = b
    by (pos (suc zero)) h a b c = c
    by (pos (suc (suc n))) h a b c = absurd (omega arith)
    by (negsuc zero) h a b c = a
    by (negsuc (suc n)) h a b c = absurd (omega arith)

abbrev pub all_faces : (Face → Bool) → Bool
all_faces t = all3 (λ x. all3 (λ y. all3 (λ z. t (face x y z))))

-- a test that passes at all 27 passes at each
pub at_face : (t : Face → Bool) → all_faces t ≡ true → (f : Face) → Small f → t f ≡ true
at_face t p f s =
    at3 (λ z. t (face f.x f.y z))
    (at3 (λ y. all3 (λ z. t (face f.x y z))) (at3 (λ x. all3 (λ y. all3 (λ z. t (face x y z)))) p f.x s.small_x) f.y s.small_y)
    f.z s.small_z

-- the places by the entries, each one more than it is
abbrev places : List (List (List ℕ))
places =
    ((25 ∷ 9 ∷ 24 ∷ []) ∷ (13 ∷ 1 ∷ 12 ∷ []) ∷ (23 ∷ 8 ∷ 22 ∷ []) ∷ [])
    ∷ ((17 ∷ 3 ∷ 16 ∷ []) ∷ (5 ∷ 26 ∷ 4 ∷ []) ∷ (15 ∷ 2 ∷ 14 ∷ []) ∷ [])
    ∷ ((21 ∷ 7 ∷ 20 ∷ []) ∷ (11 ∷ 0 ∷ 10 ∷ []) ∷ (19 ∷ 6 ∷ 18 ∷ []) ∷ []) ∷ []

abbrev index : ℤ → ℕ
index z = nat_abs (z +ℤ pos 1)

abbrev found : Face → ℕ
found f = get_or (get_or (get_or places (index f.x) []) (index f.y) []) (index f.z) 0

pub place_is : (f : Face) → Small f → found f ≡ place f
unfolding place
place_is f s = eqb-true (found f) (place f) (at_face (λ f. eqb (found f) (place f)) refl f s)
