-- A direction as weights on the faces of a box, and on all 26.
use Rattle.std.proofs.Common.{◌≡◌, ℕ, suc, ◌+◌, ◌-◌, ◌*◌, ◌<◌, ◌≤◌, Bool, true, false, cond, ◌&&◌, ◌||◌, eqb, ltb, leb, List, [], ◌∷◌, get_or, ℤ, pos, negsuc, ◌+ℤ◌, ◌-ℤ◌, ◌*ℤ◌, neg_ℤ, nat_abs, sym, refl, ap, ◌∙◌, ap₂, arith, lit<, lit≤}
use native.Mathlib.Nat as NatL
use borrow.Author.Differences.{ints}
use Rattle.std.proofs.lemmas.Bool.{and_parts, eqb-true, ltb-true}
use Rattle.std.specs.List.{AllByRecursion}
use Rattle.integers.proofs.Order.{nat_abs_add}
use Rattle.integers.proofs.Ring.{var, ◌⊕◌, ◌⊖◌, ◌⊗◌, ⊝, #, solve}
use Rattle.hull.specs.declared.corner.Corner.{Corner}
use Rattle.hull.specs.declared.direction.Direction.{Direction}
use Rattle.hull.specs.declared.face.Face.{Face}
use Rattle.hull.specs.declared.face.Weight.{Weight}
use Rattle.hull.specs.Faces.{face, faces, behind, joined, no_face, place, rank, same, Small}
use Rattle.hull.specs.Weights.{weight, entry, box_weighting, insert, sorted, stacked_from, stacked, many_weighting, total, Falls, Ranked}
use Rattle.hull.specs.Measures.{along, size}
use Rattle.hull.proofs.FaceTable.{at_face}
use Rattle.hull.proofs.WeightLaws.{ex, ey, ez, size_of, along_axis, total_sorted, ranked, small_edge, small_tip}
use Rattle.support.specs.Supports.{product, sum_of}
use Rattle.support.proofs.Sums.{sum_sorted}
use Rattle.support.proofs.FacedLaws.{Listed, Decomposes}

-- ---- the faces of a box
-- an entry's face is that of its axis, or the one behind
on_axis : (P : Face → Type 0) (z : ℤ) (f : Face) → P f → P (behind f) → P (entry z f).on
on_axis P (pos n) f a b = a
on_axis P (negsuc n) f a b = b

box_listed : (x y z : ℤ) → AllByRecursion (λ (w : Weight). Listed 6 w.on) (box_weighting x y z)
unfolding place
box_listed x y z = (
  on_axis (Listed 6) x ex (record { within = lit< tt; found = refl }) (record { within = lit< tt; found = refl }),
  (
    on_axis (Listed 6) y ey (record { within = lit< tt; found = refl }) (record { within = lit< tt; found = refl }),
    (on_axis (Listed 6) z ez (record { within = lit< tt; found = refl }) (record { within = lit< tt; found = refl }), tt),
  ),
)

behind_product : (f : Face) (v : Corner) → product (behind f) v ≡ neg_ℤ (product f v)
behind_product f v =
    solve (f.x ∷ f.y ∷ f.z ∷ v.x ∷ v.y ∷ v.z ∷ []) (⊝ (var 0) ⊗ var 3 ⊕ ⊝ (var 1) ⊗ var 4 ⊕ ⊝ (var 2) ⊗ var 5) (⊝ (var 0 ⊗ var 3 ⊕ var 1 ⊗ var 4 ⊕ var 2 ⊗ var 5)) refl

-- the weight of an entry times its face's product is the entry times the axis' product
entry_product_lem : (z : ℤ) (f : Face) (v : Corner) → pos (entry z f).amount *ℤ product (entry z f).on v ≡ z *ℤ product f v
entry_product_lem (pos n) f v = refl
entry_product_lem (negsuc n) f v =
    ap (λ (k : ℤ). pos (suc n) *ℤ k) (behind_product f v)
    ∙ solve (pos (suc n) ∷ product f v ∷ []) (var 0 ⊗ ⊝ (var 1)) (⊝ (var 0) ⊗ var 1) refl

abbrev pull : Corner → Weight → ℤ
pull v w = pos w.amount *ℤ product w.on v

box_spans : (u : Direction) (v : Corner) → along u v ≡ sum_of (pull v) (box_weighting u.x u.y u.z)
box_spans u v =
    solve (u.x ∷ u.y ∷ u.z ∷ v.x ∷ v.y ∷ v.z ∷ []) (var 0 ⊗ var 3 ⊕ var 1 ⊗ var 4 ⊕ var 2 ⊗ var 5)
    (var 0 ⊗ (# 1 ⊗ var 3 ⊕ # 0 ⊗ var 4 ⊕ # 0 ⊗ var 5) ⊕ (var 1 ⊗ (# 0 ⊗ var 3 ⊕ # 1 ⊗ var 4 ⊕ # 0 ⊗ var 5) ⊕ (var 2 ⊗ (# 0 ⊗ var 3 ⊕ # 0 ⊗ var 4 ⊕ # 1 ⊗ var 5) ⊕ # 0))) refl
    ∙ sym (ap₂ ◌+ℤ◌ (entry_product_lem u.x ex v) (ap₂ ◌+ℤ◌ (entry_product_lem u.y ey v) (ap (λ (k : ℤ). k +ℤ pos 0) (entry_product_lem u.z ez v))))

box_amounts : (u : Direction) → total (λ (w : Weight). w.amount) (box_weighting u.x u.y u.z) ≡ size u
box_amounts u = omega (arith, size_of u.x ex, size_of u.y ey, size_of u.z ez)

-- the axes have one entry each
box_ranks : (x y z : ℤ) → AllByRecursion (λ (w : Weight). rank w.on ≡ 1) (box_weighting x y z)
box_ranks x y z = (along_axis rank x ex refl, (along_axis rank y ey refl, (along_axis rank z ez refl, tt)))

-- totals over weights on faces with one entry
lengths_of : (ws : List Weight) → AllByRecursion (λ (w : Weight). rank w.on ≡ 1) ws → total (λ (w : Weight). w.amount * rank w.on) ws ≡ total (λ (w : Weight). w.amount) ws
lengths_of [] h = refl
lengths_of (w ∷ ws) h = ap₂ ◌+◌ (ap (λ (n : ℕ). w.amount * n) h.0 ∙ NatL.mul-one w.amount) (lengths_of ws h.1)

pub box_decomposes : (u : Direction) → Decomposes u 6 (box_weighting u.x u.y u.z)
box_decomposes u = record {
  few = lit≤ tt;
  listed = box_listed u.x u.y u.z;
  spans = box_spans u;
  amounts = NatL.le_of_eq (box_amounts u);
  lengths = NatL.le_of_eq (lengths_of (box_weighting u.x u.y u.z) (box_ranks u.x u.y u.z) ∙ box_amounts u);
  ranks = let r = box_ranks u.x u.y u.z in omega (arith, r.0, r.1.0, r.1.1.0);
}

-- ---- the 26 faces
-- a face that no entry of differs from another is that other
same_face : (e f : Face) → same e f ≡ true → e ≡ f
same_face e f h = let k : rank (joined e (behind f)) ≡ 0 = eqb-true (rank (joined e (behind f))) 0 h in made (zero_gap e.x f.x (omega arith)) (zero_gap e.y f.y (omega arith)) (zero_gap e.z f.z (omega arith))
  where
    zero_gap : (a b : ℤ) → nat_abs (a +ℤ neg_ℤ b) ≡ 0 → a ≡ b
    zero_gap a b h = omega (arith, ints)

    made : e.x ≡ f.x → e.y ≡ f.y → e.z ≡ f.z → e ≡ f
    made x y z = ap (λ (a : ℤ). face a e.y e.z) x ∙ ap (λ (a : ℤ). face f.x a e.z) y ∙ ap (λ (a : ℤ). face f.x f.y a) z

-- every face with small entries that are not all 0 is listed
abbrev listed_test : Face → Bool
listed_test f = eqb (rank f) 0 || (ltb (place f) 26 && same (get_or faces (place f) no_face) f)

listed_26 : (f : Face) → Small f → 0 < rank f → Listed 26 f
unfolding place
listed_26 f s h = by (eqb (rank f) 0) refl (at_face listed_test refl f s)
  where
    by : (b : Bool) → eqb (rank f) 0 ≡ b → (b || (ltb (place f) 26 && same (get_or faces (place f) no_face) f)) ≡ true → Listed 26 f
    by true e t = absurd (let z = eqb-true (rank f) 0 e in omega arith)
    by false e t =
        let p = and_parts (ltb (place f) 26) (same (get_or faces (place f) no_face) f) t in
        record { within = ltb-true (place f) 26 p.0; found = same_face (get_or faces (place f) no_face) f p.1 }

-- ---- weights in order, stacked
joined_product : (e f : Face) (v : Corner) → product (joined e f) v ≡ product e v +ℤ product f v
joined_product e f v =
    solve (e.x ∷ e.y ∷ e.z ∷ f.x ∷ f.y ∷ f.z ∷ v.x ∷ v.y ∷ v.z ∷ [])
    ((var 0 ⊕ var 3) ⊗ var 6 ⊕ (var 1 ⊕ var 4) ⊗ var 7 ⊕ (var 2 ⊕ var 5) ⊗ var 8)
    (var 0 ⊗ var 6 ⊕ var 1 ⊗ var 7 ⊕ var 2 ⊗ var 8 ⊕ (var 3 ⊗ var 6 ⊕ var 4 ⊗ var 7 ⊕ var 5 ⊗ var 8)) refl

pos_less : (m n : ℕ) → n ≤ m → pos (m - n) ≡ pos m -ℤ pos n
pos_less m n h = omega (arith, ints)

-- stacking keeps the direction
stacked_spans : (v : Corner) (w : Weight) (ws : List Weight) → Falls w.amount ws → sum_of (pull v) (stacked_from w ws) ≡ sum_of (pull v) (w ∷ ws)
stacked_spans v w [] h = refl
stacked_spans v w (x ∷ ws) h =
    ap₂ (λ a b. a *ℤ product w.on v +ℤ b) (pos_less w.amount x.amount h.0) (stacked_spans v (weight x.amount (joined w.on x.on)) ws h.1)
    ∙ ap (λ k. (pos w.amount -ℤ pos x.amount) *ℤ product w.on v +ℤ (pos x.amount *ℤ k +ℤ sum_of (pull v) ws)) (joined_product w.on x.on v)
    ∙ solve (pos w.amount ∷ pos x.amount ∷ product w.on v ∷ product x.on v ∷ sum_of (pull v) ws ∷ [])
    ((var 0 ⊖ var 1) ⊗ var 2 ⊕ (var 1 ⊗ (var 2 ⊕ var 3) ⊕ var 4)) (var 0 ⊗ var 2 ⊕ (var 1 ⊗ var 3 ⊕ var 4)) refl

-- the differences sum up to the largest
stacked_amounts : (w : Weight) (ws : List Weight) → Falls w.amount ws → total (λ (w : Weight). w.amount) (stacked_from w ws) ≡ w.amount
stacked_amounts w [] h = NatL.add-zero w.amount
stacked_amounts w (x ∷ ws) h = let k = h.0 in omega (arith, stacked_amounts (weight x.amount (joined w.on x.on)) ws h.1)

rank_joined : (e f : Face) → rank (joined e f) ≤ rank e + rank f
rank_joined e f = omega (arith, nat_abs_add e.x f.x, nat_abs_add e.y f.y, nat_abs_add e.z f.z)

abbrev long : Weight → ℕ
long w = w.amount * rank w.on

stacked_lengths : (w : Weight) (ws : List Weight) → Falls w.amount ws → total long (stacked_from w ws) ≤ total long (w ∷ ws)
stacked_lengths w [] h = NatL.le_refl (total long (w ∷ []))
stacked_lengths w (x ∷ ws) h =
    add w.amount x.amount (rank w.on) (rank x.on) (rank (joined w.on x.on)) (total long (stacked_from (weight x.amount (joined w.on x.on)) ws)) (total long ws) h.0 (rank_joined w.on x.on)
    (stacked_lengths (weight x.amount (joined w.on x.on)) ws h.1)
  where
    add : (a b k l m s t : ℕ) → b ≤ a → m ≤ k + l → s ≤ b * m + t → (a - b) * k + s ≤ a * k + (b * l + t)
    add a b k l m s t f g h =
        let e : a - b + b ≡ a = omega arith in
        omega (arith, NatL.mul-le-mul_left b g, NatL.mul-add b k l, NatL.add-mul (a - b) b k, ap (λ (n : ℕ). n * k) e)

-- ---- sorted weights
all_insert : (P : Weight → Type 0) (w : Weight) (ws : List Weight) → P w → AllByRecursion P ws → AllByRecursion P (insert w ws)
all_insert P w [] p h = (p, tt)
all_insert P w (v ∷ vs) p h = by (leb v.amount w.amount) (all_insert P w vs p h.1)
  where
    by : (t : Bool) → AllByRecursion P (insert w vs) → AllByRecursion P (cond t (w ∷ v ∷ vs) (v ∷ insert w vs))
    by true r = (p, h)
    by false r = (h.0, r)

all_sorted : (P : Weight → Type 0) (ws : List Weight) → AllByRecursion P ws → AllByRecursion P (sorted ws)
all_sorted P [] h = tt
all_sorted P (w ∷ ws) h = all_insert P w (sorted ws) h.0 (all_sorted P ws h.1)

-- three sorted weights are three weights
pub sorted_three : (P : List Weight → Type 0) → ((p q r : Weight) → P (p ∷ q ∷ r ∷ [])) → (a b c : Weight) → P (sorted (a ∷ b ∷ c ∷ []))
sorted_three P f a b c = outer (leb c.amount b.amount)
  where
    inner : (q r : Weight) (s t : Bool) → P (cond s (a ∷ q ∷ r ∷ []) (q ∷ cond t (a ∷ r ∷ []) (r ∷ a ∷ [])))
    inner q r true t = f a q r
    inner q r false true = f q a r
    inner q r false false = f q r a

    outer : (t : Bool) → P (insert a (cond t (b ∷ c ∷ []) (c ∷ b ∷ [])))
    outer true = inner b c (leb b.amount a.amount) (leb c.amount a.amount)
    outer false = inner c b (leb c.amount a.amount) (leb b.amount a.amount)

-- the ranks of sums of axes, each of its own
two : (a b : ℤ) (n : ℕ) → nat_abs a + (nat_abs b + n) ≤ 1 → nat_abs (a +ℤ b) ≡ nat_abs a + nat_abs b
two a b n l = omega (arith, ints)

rank_edge : (p q r : Weight) → Ranked (p ∷ q ∷ r ∷ []) → rank (joined p.on q.on) ≡ rank p.on + rank q.on
rank_edge p q r h =
    let x = two p.on.x q.on.x (nat_abs r.on.x + 0) h.one_x in
    let y = two p.on.y q.on.y (nat_abs r.on.y + 0) h.one_y in
    let z = two p.on.z q.on.z (nat_abs r.on.z + 0) h.one_z in
    omega arith

rank_tip : (p q r : Weight) → Ranked (p ∷ q ∷ r ∷ []) → rank (joined (joined p.on q.on) r.on) ≡ rank p.on + rank q.on + rank r.on
rank_tip p q r h =
    let x = three p.on.x q.on.x r.on.x h.one_x in
    let y = three p.on.y q.on.y r.on.y h.one_y in
    let z = three p.on.z q.on.z r.on.z h.one_z in
    omega arith
  where
    three : (a b c : ℤ) → nat_abs a + (nat_abs b + (nat_abs c + 0)) ≤ 1 → nat_abs (a +ℤ b +ℤ c) ≡ nat_abs a + nat_abs b + nat_abs c
    three a b c l = let e = two a b (nat_abs c + 0) l in omega (arith, two (a +ℤ b) c 0 (omega arith))

small_first : (p q r : Weight) → Ranked (p ∷ q ∷ r ∷ []) → Small p.on
small_first p q r h = record { small_x = omega (arith, h.one_x); small_y = omega (arith, h.one_y); small_z = omega (arith, h.one_z) }

-- what is known of the weights on the axes, in order
pub record Sorted3 (u : Direction) (ws : List Weight) : Type 0 where
  pub ranked : Ranked ws
  pub ones : AllByRecursion (λ (w : Weight). rank w.on ≡ 1) ws
  pub spans : (v : Corner) → along u v ≡ sum_of (pull v) ws
  pub amounts : total (λ (w : Weight). w.amount) ws ≡ size u

pub sorted_axes : (u : Direction) → Sorted3 u (sorted (box_weighting u.x u.y u.z))
sorted_axes u = record {
  ranked = ranked u.x u.y u.z u.x_in u.y_in u.z_in;
  ones = all_sorted (λ (w : Weight). rank w.on ≡ 1) (box_weighting u.x u.y u.z) (box_ranks u.x u.y u.z);
  spans = λ v. box_spans u v ∙ sym (sum_sorted (pull v) (box_weighting u.x u.y u.z));
  amounts = total_sorted (λ (w : Weight). w.amount) (box_weighting u.x u.y u.z) ∙ box_amounts u;
}

stacked_decomposes : (u : Direction) (p q r : Weight) → Sorted3 u (p ∷ q ∷ r ∷ []) → Decomposes u 26 (stacked (p ∷ q ∷ r ∷ []))
stacked_decomposes u p q r h =
    let k = h.ranked in
    let a = h.ones.0 in
    let b = h.ones.1.0 in
    let c = h.ones.1.1.0 in
    let e = rank_edge p q r k in
    let t = rank_tip p q r k in
    record {
      few = lit≤ tt;
      listed = (listed_26 p.on (small_first p q r k) (omega arith), (listed_26 (joined p.on q.on) (small_edge p q r k) (omega arith), (listed_26 (joined (joined p.on q.on) r.on) (small_tip p q r k) (omega arith), tt)));
      spans = λ v. h.spans v ∙ sym (stacked_spans v p (q ∷ r ∷ []) k.falls.1);
      amounts = omega (arith, stacked_amounts p (q ∷ r ∷ []) k.falls.1, h.amounts);
      lengths = omega (arith, stacked_lengths p (q ∷ r ∷ []) k.falls.1, lengths_of (p ∷ q ∷ r ∷ []) h.ones, h.amounts);
      ranks = omega arith;
    }

pub many_decomposes : (u : Direction) → Decomposes u 26 (many_weighting u.x u.y u.z)
many_decomposes u =
    sorted_three (λ ws. Sorted3 u ws → Decomposes u 26 (stacked ws)) (λ p q r. stacked_decomposes u p q r) (entry u.x ex) (entry u.y ey) (entry u.z ez) (sorted_axes u)
