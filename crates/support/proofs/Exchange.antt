-- Equal absolute values may change places.
use Rattle.std.proofs.Common.{◌≡◌, ℕ, ◌-◌, ◌<◌, ◌≤◌, Bool, true, false, cond, leb, List, [], ◌∷◌, ℤ, pos, negsuc, ◌+ℤ◌, sym, refl, ap, ◌∙◌, subst, ap₂, arith}
use Rattle.std.proofs.lemmas.Bool.{leb-true, leb-false, le-leb, lt-leb}
use Rattle.std.proofs.lemmas.Int.{ints}
use lib.IntN.{zero-*ℤ, +ℤ_comm, +ℤ_assoc}
use Rattle.std.specs.List.{AllByRecursion}
use Rattle.hull.specs.declared.direction.Direction.{Direction}
use Rattle.hull.specs.declared.face.Face.{Face}
use Rattle.hull.specs.declared.face.Weight.{Weight}
use Rattle.hull.specs.Faces.{face, joined}
use Rattle.hull.specs.Weights.{entry, insert, sorted, stacked, box_weighting, many_weighting, Falls}
use Rattle.support.specs.Supports.{share, support, sum_of, reach_on}
use Rattle.hull.proofs.WeightLaws.{ex, ey, ez}
use Rattle.support.specs.Exchange.{orders, InAnyOrder, InAnyOrderAs}

-- ---- three ways in which two numbers compare
by_order : {P : Type 0} (m n : ℕ) → (m < n → P) → (m ≡ n → P) → (n < m → P) → P
by_order {P} m n f g h = first (leb n m) refl
  where
    second : n ≤ m → (b : Bool) → leb m n ≡ b → P
    second l true e = let k = leb-true m n e in g (omega arith)
    second l false e = h (leb-false m n e)

    first : (b : Bool) → leb n m ≡ b → P
    first true e = second (leb-true n m e) (leb m n) refl
    first false e = f (leb-false n m e)

-- ---- where two weights differ, the order in which they are inserted does not matter
insert_comm : (a b : Weight) (ws : List Weight) → b.amount < a.amount → insert a (insert b ws) ≡ insert b (insert a ws)
insert_comm a b [] h =
    ap (λ (t : Bool). cond t (a ∷ b ∷ []) (b ∷ a ∷ [])) (le-leb b.amount a.amount (omega arith))
    ∙ sym (ap (λ (t : Bool). cond t (b ∷ a ∷ []) (a ∷ b ∷ [])) (lt-leb a.amount b.amount h))
insert_comm a b (c ∷ ws) h = by (leb c.amount b.amount) refl (leb c.amount a.amount) refl (insert_comm a b ws h)
  where
    ab : leb a.amount b.amount ≡ false
    ab = lt-leb a.amount b.amount h

    by : (s : Bool) → leb c.amount b.amount ≡ s → (t : Bool) → leb c.amount a.amount ≡ t → insert a (insert b ws) ≡ insert b (insert a ws) → insert a (cond s (b ∷ c ∷ ws) (c ∷ insert b ws)) ≡ insert b (cond t (a ∷ c ∷ ws) (c ∷ insert a ws))
    by true e true f r =
        ap (λ (t : Bool). cond t (a ∷ b ∷ c ∷ ws) (b ∷ insert a (c ∷ ws))) (le-leb b.amount a.amount (omega arith))
        ∙ sym (ap₂ (λ (s t : Bool). cond s (b ∷ a ∷ c ∷ ws) (a ∷ cond t (b ∷ c ∷ ws) (c ∷ insert b ws))) ab e)
    by true e false f r = absurd (let l = leb-true c.amount b.amount e in let k = leb-false c.amount a.amount f in omega arith)
    by false e true f r =
        ap (λ (t : Bool). cond t (a ∷ c ∷ insert b ws) (c ∷ insert a (insert b ws))) f
        ∙ sym (ap₂ (λ (s t : Bool). cond s (b ∷ a ∷ c ∷ ws) (a ∷ cond t (b ∷ c ∷ ws) (c ∷ insert b ws))) ab e)
    by false e false f r =
        ap (λ (t : Bool). cond t (a ∷ c ∷ insert b ws) (c ∷ insert a (insert b ws))) f
        ∙ ap (λ (k : List Weight). c ∷ k) r
        ∙ sym (ap (λ (t : Bool). cond t (b ∷ c ∷ insert a ws) (c ∷ insert b (insert a ws))) e)

-- ---- sums of faces in another order
face_is : (x y z x' y' z' : ℤ) → x ≡ x' → y ≡ y' → z ≡ z' → face x y z ≡ face x' y' z'
face_is x y z x' y' z' a b c = ap (λ (k : ℤ). face k y z) a ∙ ap (λ (k : ℤ). face x' k z) b ∙ ap (λ (k : ℤ). face x' y' k) c

joined_comm : (e f : Face) → joined e f ≡ joined f e
joined_comm e f = face_is _ _ _ _ _ _ (+ℤ_comm e.x f.x) (+ℤ_comm e.y f.y) (+ℤ_comm e.z f.z)

joined_swap : (e f h : Face) → joined (joined e f) h ≡ joined (joined e h) f
joined_swap e f h = face_is _ _ _ _ _ _ (swap e.x f.x h.x) (swap e.y f.y h.y) (swap e.z f.z h.z)
  where
    swap : (a b c : ℤ) → a +ℤ b +ℤ c ≡ a +ℤ c +ℤ b
    swap a b c = +ℤ_assoc a b c ∙ ap (λ (k : ℤ). a +ℤ k) (+ℤ_comm b c) ∙ sym (+ℤ_assoc a c b)

-- ---- no weight adds nothing
share_none : (g : ℤ) → share 0 g ≡ pos 0
share_none (pos g) = zero-*ℤ (pos g)
share_none (negsuc g) = zero-*ℤ (negsuc g)

module _ (g : List ℤ) where
  on : ℕ → Face → ℤ
  on n f = share n (support g f)

  at_none : (n : ℕ) (f : Face) → n ≡ 0 → on n f ≡ pos 0
  unfolding on
  at_none n f e = ap (λ (k : ℕ). share k (support g f)) e ∙ share_none (support g f)

  abbrev three : Weight → Weight → Weight → ℤ
  three p q r = on (p.amount - q.amount) p.on +ℤ (on (q.amount - r.amount) (joined p.on q.on) +ℤ (on r.amount (joined (joined p.on q.on) r.on) +ℤ pos 0))

  -- the two exchanges
  swap_first : (p q r : Weight) → p.amount ≡ q.amount → three p q r ≡ three q p r
  swap_first p q r e =
      ap₂ ◌+ℤ◌ (at_none (p.amount - q.amount) p.on (omega arith) ∙ sym (at_none (q.amount - p.amount) q.on (omega arith)))
      (ap₂ ◌+ℤ◌ (ap₂ on (ap (λ (n : ℕ). n - r.amount) (sym e)) (joined_comm p.on q.on)) (ap (λ (f : Face). on r.amount (joined f r.on) +ℤ pos 0) (joined_comm p.on q.on)))

  swap_last : (p q r : Weight) → q.amount ≡ r.amount → three p q r ≡ three p r q
  swap_last p q r e =
      ap₂ ◌+ℤ◌ (ap (λ (n : ℕ). on (p.amount - n) p.on) e)
      (ap₂ ◌+ℤ◌ (at_none (q.amount - r.amount) (joined p.on q.on) (omega arith) ∙ sym (at_none (r.amount - q.amount) (joined p.on r.on) (omega arith)))
      (ap₂ (λ (n : ℕ) (f : Face). on n f +ℤ pos 0) (sym e) (joined_swap p.on q.on r.on)))

  -- the reach of three weights in order
  abbrev reach_of : List Weight → ℤ
  reach_of ws = reach_on (stacked ws) g

  front : (p q r : Weight) → p.amount ≡ q.amount → reach_of (p ∷ q ∷ r ∷ []) ≡ reach_of (q ∷ p ∷ r ∷ [])
  unfolding reach_on on
  front p q r e = swap_first p q r e

  back : (p q r : Weight) → q.amount ≡ r.amount → reach_of (p ∷ q ∷ r ∷ []) ≡ reach_of (p ∷ r ∷ q ∷ [])
  unfolding reach_on on
  back p q r e = swap_last p q r e

  -- where two weights are equal, the reach does not tell in which order they are inserted
  equal_first : (a b c : Weight) → a.amount ≡ b.amount → reach_of (sorted (a ∷ b ∷ c ∷ [])) ≡ reach_of (sorted (b ∷ a ∷ c ∷ []))
  equal_first a b c e = by (leb c.amount b.amount) refl
    where
      by : (t : Bool) → leb c.amount b.amount ≡ t → reach_of (sorted (a ∷ b ∷ c ∷ [])) ≡ reach_of (sorted (b ∷ a ∷ c ∷ []))
      by true f =
          ap reach_of (ap (insert a) (ap (λ (t : Bool). cond t (b ∷ c ∷ []) (c ∷ b ∷ [])) f) ∙ ap (λ (t : Bool). cond t (a ∷ b ∷ c ∷ []) (b ∷ insert a (c ∷ []))) (le-leb b.amount a.amount (omega arith)))
          ∙ front a b c e
          ∙ sym (ap reach_of (ap (insert b) (ap (λ (t : Bool). cond t (a ∷ c ∷ []) (c ∷ a ∷ [])) (ap (leb c.amount) e ∙ f)) ∙ ap (λ (t : Bool). cond t (b ∷ a ∷ c ∷ []) (a ∷ insert b (c ∷ []))) (le-leb a.amount b.amount (omega arith))))
      by false f =
          ap reach_of (ap (insert a) (ap (λ (t : Bool). cond t (b ∷ c ∷ []) (c ∷ b ∷ [])) f) ∙ ap₂ (λ (s t : Bool). cond s (a ∷ c ∷ b ∷ []) (c ∷ cond t (a ∷ b ∷ []) (b ∷ a ∷ []))) (ap (leb c.amount) e ∙ f) (le-leb b.amount a.amount (omega arith)))
          ∙ back c a b e
          ∙ sym (ap reach_of (ap (insert b) (ap (λ (t : Bool). cond t (a ∷ c ∷ []) (c ∷ a ∷ [])) (ap (leb c.amount) e ∙ f)) ∙ ap₂ (λ (s t : Bool). cond s (b ∷ c ∷ a ∷ []) (c ∷ cond t (b ∷ a ∷ []) (a ∷ b ∷ []))) f (le-leb a.amount b.amount (omega arith))))

  equal_last : (a b c : Weight) → b.amount ≡ c.amount → reach_of (sorted (a ∷ b ∷ c ∷ [])) ≡ reach_of (sorted (a ∷ c ∷ b ∷ []))
  equal_last a b c e = by (leb b.amount a.amount) refl
    where
      left : sorted (a ∷ b ∷ c ∷ []) ≡ insert a (b ∷ c ∷ [])
      left = ap (λ (t : Bool). insert a (cond t (b ∷ c ∷ []) (c ∷ b ∷ []))) (le-leb c.amount b.amount (omega arith))

      right : sorted (a ∷ c ∷ b ∷ []) ≡ insert a (c ∷ b ∷ [])
      right = ap (λ (t : Bool). insert a (cond t (c ∷ b ∷ []) (b ∷ c ∷ []))) (le-leb b.amount c.amount (omega arith))

      by : (t : Bool) → leb b.amount a.amount ≡ t → reach_of (sorted (a ∷ b ∷ c ∷ [])) ≡ reach_of (sorted (a ∷ c ∷ b ∷ []))
      by true f =
          ap reach_of (left ∙ ap (λ (t : Bool). cond t (a ∷ b ∷ c ∷ []) (b ∷ insert a (c ∷ []))) f)
          ∙ back a b c e
          ∙ sym (ap reach_of (right ∙ ap (λ (t : Bool). cond t (a ∷ c ∷ b ∷ []) (c ∷ insert a (b ∷ []))) (ap (λ (n : ℕ). leb n a.amount) (sym e) ∙ f)))
      by false f =
          ap reach_of (left ∙ ap₂ (λ (s t : Bool). cond s (a ∷ b ∷ c ∷ []) (b ∷ cond t (a ∷ c ∷ []) (c ∷ a ∷ []))) f (ap (λ (n : ℕ). leb n a.amount) (sym e) ∙ f))
          ∙ front b c a e
          ∙ sym (ap reach_of (right ∙ ap₂ (λ (s t : Bool). cond s (a ∷ c ∷ b ∷ []) (c ∷ cond t (a ∷ b ∷ []) (b ∷ a ∷ []))) (ap (λ (n : ℕ). leb n a.amount) (sym e) ∙ f) f))

  -- the reach does not tell in which order the weights come
  change_first : (a b c : Weight) → reach_of (sorted (a ∷ b ∷ c ∷ [])) ≡ reach_of (sorted (b ∷ a ∷ c ∷ []))
  change_first a b c =
      by_order a.amount b.amount (λ l. ap reach_of (sym (insert_comm b a (c ∷ []) l))) (λ e. equal_first a b c e) (λ l. ap reach_of (insert_comm a b (c ∷ []) l))

  change_last : (a b c : Weight) → reach_of (sorted (a ∷ b ∷ c ∷ [])) ≡ reach_of (sorted (a ∷ c ∷ b ∷ []))
  change_last a b c =
      by_order b.amount c.amount (λ l. ap (λ (ws : List Weight). reach_of (insert a ws)) (sym (insert_comm c b [] l))) (λ e. equal_last a b c e) (λ l. ap (λ (ws : List Weight). reach_of (insert a ws)) (insert_comm b c [] l))

-- weights in order are sorted already
sorted_falls : (p q r : Weight) (n : ℕ) → Falls n (p ∷ q ∷ r ∷ []) → p ∷ q ∷ r ∷ [] ≡ sorted (p ∷ q ∷ r ∷ [])
sorted_falls p q r n h =
    sym (ap (λ (t : Bool). insert p (cond t (q ∷ r ∷ []) (r ∷ q ∷ []))) (le-leb r.amount q.amount h.1.1.0)
    ∙ ap (λ (t : Bool). cond t (p ∷ q ∷ r ∷ []) (q ∷ insert p (r ∷ []))) (le-leb q.amount p.amount h.1.0))

free : (g : List ℤ) (p q r : Weight) (n : ℕ) → Falls n (p ∷ q ∷ r ∷ []) → reach_on (stacked (p ∷ q ∷ r ∷ [])) g ≡ reach_on (stacked (sorted (p ∷ q ∷ r ∷ []))) g
free g p q r n h = ap (λ (ws : List Weight). reach_on (stacked ws) g) (sorted_falls p q r n h)

free_orders : (g : List ℤ) (a b c : Weight) → AllByRecursion (λ ws. (n : ℕ) → Falls n ws → reach_on (stacked ws) g ≡ reach_on (stacked (sorted (a ∷ b ∷ c ∷ []))) g) (orders (a ∷ b ∷ c ∷ []))
free_orders g a b c =
    let ab = change_first g in
    let bc = change_last g in (
      λ n h. free g a b c n h,
      (
        λ n h. free g a c b n h ∙ bc a c b,
        (
          λ n h. free g b a c n h ∙ ab b a c,
          (
            λ n h. free g b c a n h ∙ bc b c a ∙ ab b a c,
            (
              λ n h. free g c a b n h ∙ ab c a b ∙ bc a c b,
              (λ n h. free g c b a n h ∙ ab c b a ∙ bc b c a ∙ ab b a c, tt),
            ),
          ),
        ),
      ),
    )

pub in_any_order : (g : List ℤ) (x y z r : ℤ) → r ≡ reach_on (many_weighting x y z) g → InAnyOrder g x y z r
unfolding InAnyOrderAs
in_any_order g x y z r e = subst (λ (k : ℤ). InAnyOrder g x y z k) (sym e) (free_orders g (entry x ex) (entry y ey) (entry z ez))

pub many_in_any_order : (u : Direction) (g : List ℤ) → InAnyOrder g u.x u.y u.z (reach_on (many_weighting u.x u.y u.z) g)
many_in_any_order u g = in_any_order g u.x u.y u.z _ refl

-- ---- weights that stay on the axes may come in any order
sum_orders : (e : Weight → ℤ) (a b c : Weight) → AllByRecursion (λ ws. (n : ℕ) → Falls n ws → sum_of e ws ≡ sum_of e (a ∷ b ∷ c ∷ [])) (orders (a ∷ b ∷ c ∷ []))
sum_orders e a b c = let s = turned (e a) (e b) (e c) in (λ n h. refl, (λ n h. s.0, (λ n h. s.1, (λ n h. s.2, (λ n h. s.3, (λ n h. s.4, tt))))))
  where
    three : ℤ → ℤ → ℤ → ℤ
    three x y z = x +ℤ (y +ℤ (z +ℤ pos 0))

    turned : (x y z : ℤ) → (three x z y ≡ three x y z) × (three y x z ≡ three x y z) × (three y z x ≡ three x y z) × (three z x y ≡ three x y z) × (three z y x ≡ three x y z)
    turned x y z = (omega (arith, ints), omega (arith, ints), omega (arith, ints), omega (arith, ints), omega (arith, ints))

pub box_in_any_order : (u : Direction) (g : List ℤ) → InAnyOrderAs (λ ws. ws) g u.x u.y u.z (reach_on (box_weighting u.x u.y u.z) g)
unfolding InAnyOrderAs reach_on
box_in_any_order u g =
    sum_orders (λ (w : Weight). share w.amount (support g w.on)) (entry u.x ex) (entry u.y ey) (entry u.z ez)
