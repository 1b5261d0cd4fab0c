-- The laws of a hull with faces, for any direction that is written as weights on them.
use Rattle.std.proofs.Common.{◌≡◌, ℕ, ◌+◌, ◌-◌, ◌*◌, ◌<◌, ◌≤◌, List, [], ◌∷◌, length, get_or, take, ℤ, pos, ◌+ℤ◌, ◌*ℤ◌, nat_abs, ◌≤ℤ◌, sym, refl, ◌∙◌, subst, arith}
use native.Mathlib.Nat as NatL
use borrow.Author.Differences.{ints}
use Rattle.std.specs.List.{ContainsAt as Has, AllByRecursion}
use Rattle.std.proofs.ByRecursion.{All-weaker, all-has, all_has_itself}
use Rattle.std.proofs.lemmas.List.{get_or-map, get_or-take, length-take-le}
use Rattle.integers.proofs.Order.{le_trans, mul_le_mul_left, nat_nonneg}
use Rattle.integers.proofs.Laws.{mul_add}
use Rattle.hull.specs.declared.corner.Corner.{Corner}
use Rattle.hull.specs.declared.direction.Direction.{Direction}
use Rattle.hull.specs.declared.face.Face.{Face}
use Rattle.hull.specs.declared.face.Weight.{Weight}
use Rattle.hull.specs.Units.{reach_unit, support_unit, support_limit, slack, rounding}
use Rattle.hull.specs.Faces.{faces, place, no_face, rank}
use Rattle.hull.specs.Weights.{total}
use Rattle.hull.specs.Measures.{along, size, Near, Spread, Covers, Tight, Rounds}
use Rattle.support.specs.Supports.{product, top, kept, share, support, sum_of, reach_on, unrounded_on, Supports}
use Rattle.support.proofs.Shares.{excess, share_over, share_under, kept_bounds}
use Rattle.support.proofs.Tops.{top_over, top_near, kept_small}
use Rattle.support.proofs.Sums.{sum_mono, sum_le, sum_scaled}

-- the face is one of the first n
pub record Listed (n : ℕ) (f : Face) : Type 0 where
  pub within : place f < n
  pub found : get_or faces (place f) no_face ≡ f

-- the direction is the sum of the weights on their faces, which are among the first n
pub record Decomposes (u : Direction) (n : ℕ) (ws : List Weight) : Type 0 where
  pub few : n ≤ 26
  pub listed : AllByRecursion (λ (w : Weight). Listed n w.on) ws
  pub spans : (v : Corner) → along u v ≡ sum_of (λ (w : Weight). pos w.amount *ℤ product w.on v) ws
  pub amounts : total (λ (w : Weight). w.amount) ws ≤ size u
  pub lengths : total (λ (w : Weight). w.amount * rank w.on) ws ≤ size u
  pub ranks : total (λ (w : Weight). rank w.on) ws ≤ 6

all_of : {X : Type 0} (P : X → Type 0) (xs : List X) → ((x : X) → Has xs x → P x) → AllByRecursion P xs
all_of P xs f = All-weaker (Has xs) P f xs (all_has_itself xs)

-- totals of what a sum may pass
total_excess : (ws : List Weight) → total (λ (w : Weight). excess w.amount (rank w.on * support_limit)) ws ≡ excess (total (λ (w : Weight). w.amount) ws) (total (λ (w : Weight). rank w.on) ws * support_limit)
total_excess [] = refl
total_excess (w ∷ ws) = omega (arith, total_excess ws)

total_spread : (s : ℕ) (ws : List Weight) → total (λ (w : Weight). w.amount * (rank w.on * s)) ws ≡ total (λ (w : Weight). w.amount * rank w.on) ws * s
total_spread s [] = omega (arith, NatL.zero-mul s)
total_spread s (w ∷ ws) =
    omega (arith, total_spread s ws, NatL.mul_assoc w.amount (rank w.on) s, NatL.add-mul (w.amount * rank w.on) (total (λ (w : Weight). w.amount * rank w.on) ws) s)

module _ (u : Direction) (n : ℕ) (ws : List Weight) (d : Decomposes u n ws) (g : List ℤ) (p : Corner) (c : List Corner) (h : Supports n g (p ∷ c)) where
  -- what is kept for a face of the direction
  support_is : (f : Face) → Listed n f → support g f ≡ kept (top f (p ∷ c))
  unfolding Supports
  support_is f l =
      let k : place f < length (take n faces) = subst (λ (m : ℕ). place f < m) (sym (length-take-le n faces d.few)) l.within in
      subst (λ (k : List ℤ). get_or k (place f) (pos 0) ≡ kept (top f (p ∷ c))) (sym h)
      (get_or-map (λ f. kept (top f (p ∷ c))) (take n faces) (place f) no_face (pos 0) k
      ∙ subst (λ (e : Face). kept (top e (p ∷ c)) ≡ kept (top f (p ∷ c))) (sym (get_or-take n faces (place f) no_face l.within ∙ l.found)) refl)

  -- 256 × reach, from below and from above
  abbrev e : Weight → ℤ
  e w = pos w.amount *ℤ top w.on (p ∷ c)

  abbrev r : Weight → ℤ
  r w = pos reach_unit *ℤ share w.amount (support g w.on)

  over_one : (w : Weight) → Listed n w.on → e w ≤ℤ r w
  over_one w l = share_over w.amount (support g w.on) (top w.on (p ∷ c)) (subst (λ (z : ℤ). top w.on (p ∷ c) ≤ℤ (pos support_unit *ℤ z)) (sym (support_is w.on l)) (kept_bounds (top w.on (p ∷ c))).0)

  under_one : (w : Weight) → Listed n w.on → r w ≤ℤ (e w +ℤ pos (excess w.amount (rank w.on * support_limit)))
  under_one w l =
      share_under w.amount (rank w.on * support_limit) (support g w.on) (top w.on (p ∷ c))
      (subst (λ (z : ℤ). (pos support_unit *ℤ z) ≤ℤ (top w.on (p ∷ c) +ℤ pos (support_unit - 1))) (sym (support_is w.on l)) (kept_bounds (top w.on (p ∷ c))).1)
      (subst (λ (z : ℤ). nat_abs z ≤ rank w.on * support_limit) (sym (support_is w.on l)) (kept_small w.on p c))

  over : unrounded_on ws (p ∷ c) ≤ℤ (pos reach_unit *ℤ reach_on ws g)
  unfolding reach_on unrounded_on
  over =
      subst (λ (z : ℤ). sum_of e ws ≤ℤ z) (sym (sum_scaled (pos reach_unit) (λ (w : Weight). share w.amount (support g w.on)) ws))
      (sum_mono e r ws (All-weaker (λ (w : Weight). Listed n w.on) (λ w. e w ≤ℤ r w) over_one ws d.listed))

  under : (pos reach_unit *ℤ reach_on ws g) ≤ℤ (unrounded_on ws (p ∷ c) +ℤ pos (3 * size u + rounding))
  unfolding reach_on unrounded_on
  under =
      let k = sum_le r e (λ (w : Weight). excess w.amount (rank w.on * support_limit)) ws
      (All-weaker (λ (w : Weight). Listed n w.on) (λ w. r w ≤ℤ (e w +ℤ pos (excess w.amount (rank w.on * support_limit)))) under_one ws d.listed) in
      subst (λ (z : ℤ). z ≤ℤ (sum_of e ws +ℤ pos (3 * size u + rounding))) (sym (sum_scaled (pos reach_unit) (λ (w : Weight). share w.amount (support g w.on)) ws))
      (wider (sum_of r ws) (sum_of e ws) (total (λ (w : Weight). w.amount) ws) (total (λ (w : Weight). rank w.on) ws) (size u) d.amounts d.ranks
      (subst (λ (m : ℕ). sum_of r ws ≤ℤ (sum_of e ws +ℤ pos m)) (total_excess ws) k))
    where
      wider : (a b : ℤ) (l m n : ℕ) → l ≤ n → m ≤ 6 → a ≤ℤ (b +ℤ pos (excess l (m * support_limit))) → a ≤ℤ (b +ℤ pos (3 * n + rounding))
      wider a b l m n f g h = omega (arith, ints)

  rounds_from : Rounds (reach_on ws g) (unrounded_on ws (p ∷ c)) u
  rounds_from = record { over = over; under = under }

  covers_from : Covers (reach_on ws g) u (p ∷ c)
  unfolding unrounded_on
  covers_from = all_of (λ v. along u v ≤ℤ (pos reach_unit *ℤ reach_on ws g)) (p ∷ c) one
    where
      one : (v : Corner) → Has (p ∷ c) v → along u v ≤ℤ (pos reach_unit *ℤ reach_on ws g)
      one v i =
          subst (λ (z : ℤ). z ≤ℤ (pos reach_unit *ℤ reach_on ws g)) (sym (d.spans v))
          (le_trans (sum_of (λ (w : Weight). pos w.amount *ℤ product w.on v) ws) (unrounded_on ws (p ∷ c)) (pos reach_unit *ℤ reach_on ws g)
          (sum_mono (λ (w : Weight). pos w.amount *ℤ product w.on v) e ws (all_of (λ (w : Weight). (pos w.amount *ℤ product w.on v) ≤ℤ e w) ws (λ w k. mul_le_mul_left (pos w.amount) (product w.on v) (top w.on (p ∷ c)) (nat_nonneg w.amount) (all-has (λ v. product w.on v ≤ℤ top w.on (p ∷ c)) (p ∷ c) v (top_over w.on (p ∷ c)) i)))) over)

  -- the unrounded reach passes no product by more than the spread allows
  near : (s : ℕ) (v : Corner) → AllByRecursion (Near s v) (p ∷ c) → unrounded_on ws (p ∷ c) ≤ℤ (along u v +ℤ pos (size u * s))
  unfolding unrounded_on
  near s v l =
      subst (λ (z : ℤ). unrounded_on ws (p ∷ c) ≤ℤ (z +ℤ pos (size u * s))) (sym (d.spans v))
      (wider (sum_of e ws) (sum_of (λ (w : Weight). pos w.amount *ℤ product w.on v) ws) (total (λ (w : Weight). w.amount * rank w.on) ws * s) (size u * s) (NatL.mul-le-mul_right s d.lengths)
      (subst (λ (m : ℕ). sum_of e ws ≤ℤ (sum_of (λ (w : Weight). pos w.amount *ℤ product w.on v) ws +ℤ pos m)) (total_spread s ws)
      (sum_le e (λ (w : Weight). pos w.amount *ℤ product w.on v) (λ (w : Weight). w.amount * (rank w.on * s)) ws (all_of (λ (w : Weight). e w ≤ℤ (pos w.amount *ℤ product w.on v +ℤ pos (w.amount * (rank w.on * s)))) ws (λ w i. one w)))))
    where
      one : (w : Weight) → e w ≤ℤ (pos w.amount *ℤ product w.on v +ℤ pos (w.amount * (rank w.on * s)))
      one w =
          subst (λ (z : ℤ). e w ≤ℤ z) (mul_add (pos w.amount) (product w.on v) (pos (rank w.on * s)))
          (mul_le_mul_left (pos w.amount) (top w.on (p ∷ c)) (product w.on v +ℤ pos (rank w.on * s)) (nat_nonneg w.amount) (top_near w.on s v p c l))

      wider : (a b : ℤ) (m n : ℕ) → m ≤ n → a ≤ℤ (b +ℤ pos m) → a ≤ℤ (b +ℤ pos n)
      wider a b m n f g = omega (arith, ints)

  tight_from : (s : ℕ) → Spread s (p ∷ c) → Tight (reach_on ws g) u s (p ∷ c)
  tight_from s l =
      All-weaker (λ v. AllByRecursion (Near s v) (p ∷ c)) (λ v. (pos reach_unit *ℤ reach_on ws g) ≤ℤ (along u v +ℤ pos (3 * (size u * (s + 8)) + slack)))
      (λ v k. chain (pos reach_unit *ℤ reach_on ws g) (unrounded_on ws (p ∷ c)) (along u v) (size u * s) under (near s v k) refl) (p ∷ c) l
    where
      chain : (a b z : ℤ) (m : ℕ) → a ≤ℤ (b +ℤ pos (3 * size u + rounding)) → b ≤ℤ (z +ℤ pos m) → m ≡ size u * s → a ≤ℤ (z +ℤ pos (3 * (size u * (s + 8)) + slack))
      chain a b z m f g q = omega (arith, ints, NatL.mul-add (size u) s 8)

-- no support values are those of the empty list
module _ (u : Direction) (n : ℕ) (ws : List Weight) (d : Decomposes u n ws) (g : List ℤ) where
  pub covers : (c : List Corner) → Supports n g c → Covers (reach_on ws g) u c
  unfolding Supports
  covers [] h = absurd h
  covers (p ∷ c) h = covers_from u n ws d g p c h

  pub tight : (c : List Corner) (s : ℕ) → Supports n g c → Spread s c → Tight (reach_on ws g) u s c
  unfolding Supports
  tight [] s h l = absurd h
  tight (p ∷ c) s h l = tight_from u n ws d g p c h s l

  pub rounds : (c : List Corner) → Supports n g c → Rounds (reach_on ws g) (unrounded_on ws c) u
  unfolding Supports
  rounds [] h = absurd h
  rounds (p ∷ c) h = rounds_from u n ws d g p c h
