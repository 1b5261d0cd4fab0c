-- The root that is rounded up is the least number whose square is enough.
use Rattle.std.proofs.Common.{◌≡◌, ℕ, zero, suc, ◌-◌, ◌*◌, ◌<◌, ◌≤◌, Bool, true, false, cond, leb, refl, zero-le, le_trans, lt_of_le_of_lt, lt_irrefl, suc-mul, mul-le-mul, mul-suc, arith}
use Rattle.std.proofs.lemmas.Bool.{leb-true, leb-false}
use Rattle.integers.specs.Roots.{root_up}

grows : (r : ℕ) → r * r < suc r * suc r
grows r = omega (arith, mul-suc (suc r) r, suc-mul r r)

pub root_over : (n : ℕ) → n ≤ root_up n * root_up n
unfolding root_up
root_over zero = zero-le
root_over (suc n) = go (root_up n) (root_over n) (leb (suc n) (root_up n * root_up n)) refl
  where
    go : (r : ℕ) → n ≤ r * r → (t : Bool) → leb (suc n) (r * r) ≡ t → suc n ≤ cond t r (suc r) * cond t r (suc r)
    go r h true e = leb-true (suc n) (r * r) e
    go r h false e = omega (arith, grows r)

pub root_under : (n : ℕ) → 0 < root_up n → (root_up n - 1) * (root_up n - 1) < n
unfolding root_up
root_under zero h = omega arith
root_under (suc n) h = go (root_up n) (root_under n) (leb (suc n) (root_up n * root_up n)) refl h
  where
    go : (r : ℕ) → (0 < r → (r - 1) * (r - 1) < n) → (t : Bool) → leb (suc n) (r * r) ≡ t → 0 < cond t r (suc r) → (cond t r (suc r) - 1) * (cond t r (suc r) - 1) < suc n
    go r f true e h = let l = f h in omega arith
    go r f false e h =
        let l : r * r < suc n = leb-false (suc n) (r * r) e in
        let e : suc r - 1 ≡ r = omega arith in
        rw e l

-- a square that is enough is that of a number that is enough
pub root_least : (n m : ℕ) → n ≤ m * m → root_up n ≤ m
root_least n m h = by (leb (root_up n) m) refl
  where
    by : (t : Bool) → leb (root_up n) m ≡ t → root_up n ≤ m
    by true e = leb-true (root_up n) m e
    by false e =
        let l : m < root_up n = leb-false (root_up n) m e in
        let k : m ≤ root_up n - 1 = omega arith in
        let p : 0 < root_up n = omega arith in
        absurd (lt_irrefl n (lt_of_le_of_lt (le_trans h (mul-le-mul k k)) (root_under n p)))

-- it is the only number that is enough and whose predecessor is not
pub root_is : (n r : ℕ) → n ≤ r * r → (0 < r → (r - 1) * (r - 1) < n) → r ≡ root_up n
root_is n r h f = let l : root_up n ≤ r = root_least n r h in by (leb r (root_up n)) refl l
  where
    by : (t : Bool) → leb r (root_up n) ≡ t → root_up n ≤ r → r ≡ root_up n
    by true e l = let k = leb-true r (root_up n) e in omega arith
    by false e l =
        let k : root_up n < r = leb-false r (root_up n) e in
        let j : root_up n ≤ r - 1 = omega arith in
        let p : 0 < r = omega arith in
        absurd (lt_irrefl n (lt_of_le_of_lt (le_trans (root_over n) (mul-le-mul j j)) (f p)))
