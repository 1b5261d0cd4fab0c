-- One pair of hulls under a placement, from the laws of their kind.
use Rattle.std.proofs.Common.{◌≡◌, ℕ, ◌+◌, ◌*◌, ◌≤◌, ◌⊎◌, List, ℤ, pos, ◌+ℤ◌, ◌-ℤ◌, ◌*ℤ◌, neg_ℤ, nat_abs, ◌≤ℤ◌, ◌<ℤ◌, sym, refl, ap, subst, inl, inr, arith}
use borrow.Author.Differences.{ints}
use Rattle.std.specs.List.{ContainsAt as Has, AllByRecursion}
use Rattle.std.proofs.ByRecursion.{All-weaker, all_has_itself}
use Rattle.std.proofs.lemmas.Int.{by_lt_z}
use Rattle.hull.specs.declared.corner.Corner.{Corner}
use Rattle.hull.specs.declared.direction.Direction.{Direction}
use Rattle.hull.specs.Measures.{along, size, Covers, Tight, Rounds, Spread}
use Rattle.hull.specs.Units.{reach_unit, slack, rounding}
use Rattle.placement.specs.declared.parts.Placement.{Placement}
use Rattle.placement.specs.Units.{shift_unit}
use Rattle.pairs.specs.Records.{Axis}
use Rattle.pairs.specs.Units.{shift_ratio}
use Rattle.pairs.specs.Products.{image_along, corner_along, shift_along, apart}
use Rattle.pairs.specs.Axes.{axes_under}
use Rattle.pairs.specs.Directions.{moved_direction, standing_direction, opposite, separating, moved_size, standing_size}
use Rattle.pairs.specs.Gaps.{Parts, GapsWithin, rounded_axis, unrounded_axis, Parted}
use Rattle.pairs.specs.Facets.{Facet, corners, SharesPoint}
use Rattle.pairs.specs.Claims.{TouchingUnparted, UnpartedNear, PartedUnrounded, UnpartedUnroundedNear}
use Rattle.pairs.proofs.Identities.{moved_along, standing_along, standing_size_is, shared_along}
use Rattle.pairs.proofs.Sides.{room, loose, over, under, exact_over, exact_under, split}

-- ---- over bare numbers
-- the shift along an axis in the unit of a reach and in that of an image, as it is and reversed
finer : (z : ℤ) → pos shift_unit *ℤ z ≡ pos reach_unit *ℤ (pos shift_ratio *ℤ z)
finer z = omega (arith, ints)

finer_back : (z : ℤ) → neg_ℤ (pos shift_unit *ℤ z) ≡ pos reach_unit *ℤ neg_ℤ (pos shift_ratio *ℤ z)
finer_back z = omega (arith, ints)

-- the second gap is the room with the hulls exchanged and the shift reversed
exchanged : (a b t : ℤ) → neg_ℤ b -ℤ a -ℤ t ≡ neg_ℤ b +ℤ neg_ℤ t -ℤ a
exchanged a b t = omega (arith, ints)

not_over : (z : ℤ) → (pos 0 <ℤ z → ⊥) → z ≤ℤ pos 0
not_over z h = by_lt_z (pos 0) z (λ l. absurd (h l)) (λ l. l)

-- m is L·X(v), n is W L·w, a is u·v and t the shift
above_by : (m n a b t : ℤ) → m ≡ a +ℤ t → b ≡ n → (b +ℤ pos 1) ≤ℤ (a +ℤ t) → (n +ℤ pos 1) ≤ℤ m
above_by m n a b t e k h = omega (arith, ints)

below_by : (m n a b t : ℤ) → m ≡ a +ℤ t → b ≡ n → (a +ℤ pos 1) ≤ℤ (b +ℤ neg_ℤ t) → (m +ℤ pos 1) ≤ℤ n
below_by m n a b t e k h = omega (arith, ints)

between : (m n a b t : ℤ) (d e : ℕ) → m ≡ a +ℤ t → b ≡ n → (a +ℤ t) ≤ℤ (b +ℤ pos (d + e)) → (b +ℤ neg_ℤ t) ≤ℤ (a +ℤ pos (e + d)) → nat_abs (m -ℤ n) ≤ d + e
between m n a b t d e h k x y = omega (arith, ints)

twice : (n a : ℕ) {b b' : ℕ} → b ≡ b' → (3 * a + n) + (3 * b + n) ≡ 3 * a + 3 * b' + 2 * n
twice n a e = omega arith

within : {y z : ℤ} {m n : ℕ} → y ≡ z → m ≡ n → z ≤ℤ pos m → y ≤ℤ pos n
within e k l = omega (arith, ints)

-- what holds of every element of one list and every one of another holds of those of lists within them
every : (c d : List Corner) (R : Corner → Corner → Type 0) → ((v w : Corner) → Has c v → Has d w → R v w) → (v w : List Corner) → AllByRecursion (Has c) v → AllByRecursion (Has d) w → AllByRecursion (λ a. AllByRecursion (R a) w) v
every c d R r v w hv hw = All-weaker (Has c) (λ a. AllByRecursion (R a) w) (λ a ha. All-weaker (Has d) (R a) (λ b hb. r a b ha hb) w hw) v hv

-- ---- along one axis
module _ (p : Placement) (l : Axis) where
  -- the directions in which the moved hull and the standing one are asked
  abbrev u : Direction
  u = moved_direction p l

  abbrev w : Direction
  w = standing_direction l

  -- the shift, in the unit of a reach and in that of an image
  abbrev t : ℤ
  t = pos shift_ratio *ℤ shift_along p l

  abbrev t' : ℤ
  t' = pos shift_unit *ℤ shift_along p l

  -- two hulls by their reaches, f of the moved one and g of the standing one
  module _ (f g : Direction → ℤ) where
    -- there is room between them, on one side or on the other
    abbrev Rooms : ℤ → Type 0
    Rooms t = (pos 0 <ℤ room f g u w t) ⊎ (pos 0 <ℤ room g f w u (neg_ℤ t))

    gaps_as_rooms : (n : ℕ) → Parts f g (separating n p l) → Rooms (pos n *ℤ shift_along p l)
    unfolding separating
    gaps_as_rooms n (inl k) = inl k
    gaps_as_rooms n (inr k) = inr (subst (λ (z : ℤ). pos 0 <ℤ z) (exchanged (f u) (g (opposite w)) (pos n *ℤ shift_along p l)) k)

    rooms_as_gaps : (n : ℕ) → Rooms (pos n *ℤ shift_along p l) → Parts f g (separating n p l)
    unfolding separating
    rooms_as_gaps n (inl k) = inl k
    rooms_as_gaps n (inr k) = inr (subst (λ (z : ℤ). pos 0 <ℤ z) (sym (exchanged (f u) (g (opposite w)) (pos n *ℤ shift_along p l))) k)

    -- hulls that cover lists: room between them is room between every two corners
    module _ (c d : List Corner) (bf : (u : Direction) → Covers (f u) u c) (bg : (u : Direction) → Covers (g u) u d) where
      above : pos 0 <ℤ room f g u w t → (v x : Corner) → Has c v → Has d x → (corner_along l x +ℤ pos 1) ≤ℤ image_along p l v
      above k v x hv hx =
          above_by (image_along p l v) (corner_along l x) (along u v) (along w x) t' (moved_along p l v) (standing_along l x)
          (over f g u w t t' (finer (shift_along p l)) c d v x hv hx bf bg k)

      below : pos 0 <ℤ room g f w u (neg_ℤ t) → (x v : Corner) → Has d x → Has c v → (image_along p l v +ℤ pos 1) ≤ℤ corner_along l x
      below k x v hx hv =
          below_by (image_along p l v) (corner_along l x) (along u v) (along w x) t' (moved_along p l v) (standing_along l x)
          (over g f w u (neg_ℤ t) (neg_ℤ t') (finer_back (shift_along p l)) d c x v hx hv bg bf k)

      -- so there is none where facets share a point
      no_rooms : (v x : Facet) → AllByRecursion (Has c) (corners v) → AllByRecursion (Has d) (corners x) → SharesPoint p v x → Rooms t → ⊥
      no_rooms v x hv hx s (inl k) =
          let m = s.weights in
          split m.a0 m.a1 m.a2 m.b0 m.b1 m.b2 (image_along p l v.v0) (image_along p l v.v1) (image_along p l v.v2) (corner_along l x.v0) (corner_along l x.v1) (corner_along l x.v2) m.some_a m.some_b (shared_along p l v x s)
          (every c d (λ a b. (corner_along l b +ℤ pos 1) ≤ℤ image_along p l a) (above k) (corners v) (corners x) hv hx)
      no_rooms v x hv hx s (inr k) =
          let m = s.weights in
          split m.b0 m.b1 m.b2 m.a0 m.a1 m.a2 (corner_along l x.v0) (corner_along l x.v1) (corner_along l x.v2) (image_along p l v.v0) (image_along p l v.v1) (image_along p l v.v2) m.some_b m.some_a (sym (shared_along p l v x s))
          (every d c (λ b a. (image_along p l a +ℤ pos 1) ≤ℤ corner_along l b) (below k) (corners x) (corners v) hx hv)

    -- room between hulls is room between the unrounded ones, with reaches e and i
    exact_rooms : (e i : Direction → ℤ) → ((u : Direction) → Rounds (f u) (e u) u) → ((u : Direction) → Rounds (g u) (i u) u) → Rooms t → (pos 0 <ℤ room e i u w t') ⊎ (pos 0 <ℤ room i e w u (neg_ℤ t'))
    exact_rooms e i rf rg (inl k) = inl (exact_over f g u w t t' (finer (shift_along p l)) e i rf rg k)
    exact_rooms e i rf rg (inr k) = inr (exact_over g f w u (neg_ℤ t) (neg_ℤ t') (finer_back (shift_along p l)) i e rg rf k)

    -- the axis parts no hulls
    module _ (n : Parts f g (rounded_axis p l) → ⊥) where
      none_above : room f g u w t ≤ℤ pos 0
      none_above = not_over (room f g u w t) (λ k. n (rooms_as_gaps shift_ratio (inl k)))

      none_below : room g f w u (neg_ℤ t) ≤ℤ pos 0
      none_below = not_over (room g f w u (neg_ℤ t)) (λ k. n (rooms_as_gaps shift_ratio (inr k)))

      -- hulls that are tight around lists: every two corners are near
      near : (c d : List Corner) (s r : ℕ) → ((u : Direction) → Tight (f u) u s c) → ((u : Direction) → Tight (g u) u r d) → (v x : Corner) → Has c v → Has d x → apart p l v x ≤ 3 * (moved_size p l * (s + 8)) + 3 * (standing_size l * (r + 8)) + 2 * slack
      near c d s r hf hg v x hv hx =
          subst (λ (k : ℕ). apart p l v x ≤ k) (twice slack (size u * (s + 8)) (ap (λ (k : ℕ). k * (r + 8)) (standing_size_is l)))
          (between (image_along p l v) (corner_along l x) (along u v) (along w x) t' (loose u s) (loose w r) (moved_along p l v) (standing_along l x)
          (under f g u w t t' (finer (shift_along p l)) c d v x hv hx s r hf hg none_above)
          (under g f w u (neg_ℤ t) (neg_ℤ t') (finer_back (shift_along p l)) d c x v hx hv r s hg hf none_below))

      -- and the unrounded hulls are near
      exact_near : (e i : Direction → ℤ) → ((u : Direction) → Rounds (f u) (e u) u) → ((u : Direction) → Rounds (g u) (i u) u) → GapsWithin (2 * rounding + 3 * (moved_size p l + standing_size l)) e i (unrounded_axis p l)
      unfolding separating
      exact_near e i rf rg =
          let s = standing_size_is l in
          record {
            first = within refl (omega arith) (exact_under f g u w t t' (finer (shift_along p l)) e i rf rg none_above);
            second = within (exchanged (e u) (i (opposite w)) t') (omega arith) (exact_under g f w u (neg_ℤ t) (neg_ℤ t') (finer_back (shift_along p l)) i e rg rf none_below);
          }

-- ---- the claims, of hulls that fit the lists of F and of G; `parted` stands for that some axis parts them
module _ (p : Placement) (F G : List Corner → Type 0) (f g : Direction → ℤ) where
  pub touching_unparted : ((c : List Corner) (u : Direction) → F c → Covers (f u) u c) → ((c : List Corner) (u : Direction) → G c → Covers (g u) u c) → (parted : Type 0) → (parted → Parted f g p) → TouchingUnparted p F G parted
  unfolding TouchingUnparted Parted
  touching_unparted bf bg parted is c d fc gd v w hv hw s k =
      let (l, m, n) = is k in no_rooms p l f g c d (λ u. bf c u fc) (λ u. bg d u gd) v w hv hw s (gaps_as_rooms p l f g shift_ratio n)

  -- an axis of a placement that does not part the hulls, where they are not parted
  unparted : (l : Axis) → Has (axes_under p) l → (Parted f g p → ⊥) → Parts f g (rounded_axis p l) → ⊥
  unfolding Parted
  unparted l m n k = n (l, m, k)

  -- what holds along each axis that does not part the hulls holds along all, where they are not parted
  each_axis : (Q : Axis → Type 0) → ((l : Axis) → (Parts f g (rounded_axis p l) → ⊥) → Q l) → (Parted f g p → ⊥) → AllByRecursion Q (axes_under p)
  each_axis Q q n = All-weaker (Has (axes_under p)) Q (λ l m. q l (unparted l m n)) (axes_under p) (all_has_itself (axes_under p))

  pub unparted_near : ((c : List Corner) (u : Direction) (s : ℕ) → F c → Spread s c → Tight (f u) u s c) → ((c : List Corner) (u : Direction) (s : ℕ) → G c → Spread s c → Tight (g u) u s c) → (parted : Type 0) → (Parted f g p → parted) → UnpartedNear p F G parted
  unfolding UnpartedNear
  unparted_near hf hg parted is c d s t fc gd sc sd n =
      each_axis (λ l. AllByRecursion (λ v. AllByRecursion (λ w. apart p l v w ≤ 3 * (moved_size p l * (s + 8)) + 3 * (standing_size l * (t + 8)) + 2 * slack) d) c)
      (λ l k. every c d (λ v w. apart p l v w ≤ 3 * (moved_size p l * (s + 8)) + 3 * (standing_size l * (t + 8)) + 2 * slack) (near p l f g k c d s t (λ u. hf c u s fc sc) (λ u. hg d u t gd sd)) c d (all_has_itself c) (all_has_itself d))
      (λ k. n (is k))

  -- a kind with unrounded reaches
  module _ (faced : Type 0) (exact : List Corner → Direction → ℤ) (rf : (c : List Corner) (u : Direction) → faced → F c → Rounds (f u) (exact c u) u) (rg : (c : List Corner) (u : Direction) → faced → G c → Rounds (g u) (exact c u) u) where
    pub parted_unrounded : PartedUnrounded p F G faced f g exact
    unfolding PartedUnrounded
    parted_unrounded is c d fc gd l k =
        rooms_as_gaps p l (exact c) (exact d) shift_unit (exact_rooms p l f g (exact c) (exact d) (λ u. rf c u is fc) (λ u. rg d u is gd) (gaps_as_rooms p l f g shift_ratio k))

    pub unparted_unrounded_near : (parted : Type 0) → (Parted f g p → parted) → UnpartedUnroundedNear p F G faced exact parted
    unfolding UnpartedUnroundedNear
    unparted_unrounded_near parted to is c d fc gd n =
        each_axis (λ l. GapsWithin (2 * rounding + 3 * (moved_size p l + standing_size l)) (exact c) (exact d) (unrounded_axis p l)) (λ l k. exact_near p l f g k (exact c) (exact d) (λ u. rf c u is fc) (λ u. rg d u is gd)) (λ k. n (to k))
