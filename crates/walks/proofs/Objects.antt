-- The trees of an object's items, and what lies under them.
use Rattle.std.proofs.Common.{◌≡◌, ℕ, zero, suc, ◌<◌, ◌≤◌, true, eqb, ◌⊎◌, List, length, get_or, take, sym, refl, ap, ◌∙◌, subst, inl, inr, ⊎_elim, arith}
use Rattle.std.proofs.lemmas.List.{get_or_default}
use Rattle.std.proofs.lemmas.Bool.{eqb-true, or_cases, or_left, or_right, eq-eqb, false≢true}
use Rattle.book.specs.declared.item.Facet.{Facet}
use Rattle.book.specs.declared.item.Item.{Item}
use Rattle.book.specs.declared.item.Item.TheVariants as item
use Rattle.book.specs.Pages.{allowed, sane}
use Rattle.book.specs.Trees.{Tree, leaf, node, tree, item_at, ties, Part, Under, itself, above, number}
use Rattle.book.proofs.Forest.{leaf_at, node_at, parts_below, sane_at, tie_allowed}
use Rattle.book.proofs.Flags.{part_at, part_once}
use Rattle.walks.proofs.Inside.{Inside, Separate}
use Rattle.walks.proofs.Inside as in_tree

module _ (page : List Item) (good : sane page ≡ true) where
  -- what item i is
  pub data Kind (i : ℕ) : Type 0 where
    facet : (f : Facet) → item_at page i ≡ item.Facet f → tree page i ≡ leaf i f → Kind i
    tie : (x y : ℕ) → item_at page i ≡ item.Tie x y → tree page i ≡ node i (tree page x) (tree page y) → x < i → y < i → (x ≡ y → ⊥) → Kind i

  pub kind_of : (i : ℕ) → i < length page → Kind i
  kind_of i h = by (item_at page i) refl
    where
      at : get_or page i (item_at page i) ≡ item_at page i
      at = get_or_default page i _ _ h

      differ : (x y : ℕ) → item_at page i ≡ item.Tie x y → x ≡ y → ⊥
      differ x y e = (tie_allowed (take i page) x y (subst (λ (k : Item). allowed (take i page) k ≡ true) (at ∙ e) (sane_at page i (item_at page i) good h))).0.differ

      by : (e : Item) → item_at page i ≡ e → Kind i
      by (item.Facet f) e = facet f e (leaf_at page i h at f e)
      by (item.Tie x y) e = let b = parts_below page i h good at x y e in tie x y e (node_at page i h good at x y e) b.0 b.1 (differ x y e)

  -- a tree's number is that of its item
  pub number_is : (i : ℕ) → i < length page → number (tree page i) ≡ i
  number_is i h = by (kind_of i h)
    where
      by : Kind i → number (tree page i) ≡ i
      by (facet f e t) = ap number t
      by (tie x y e t l k d) = ap number t

  -- parts of a tie
  first_part : (i x y : ℕ) → i < length page → item_at page i ≡ item.Tie x y → Part page x i
  first_part i x y h e = record { there = h; part = ap (λ (k : Item). ties k x) e ∙ or_left (eqb x x) (eqb y x) (eq-eqb x x refl) }

  second_part : (i x y : ℕ) → i < length page → item_at page i ≡ item.Tie x y → Part page y i
  second_part i x y h e = record { there = h; part = ap (λ (k : Item). ties k y) e ∙ or_right (eqb x y) (eqb y y) (eq-eqb y y refl) }

  -- what stands inside an item's tree is the tree of an item under it
  pub record Found (s : Tree) (i : ℕ) : Type 0 where
    pub at : ℕ
    pub there : at < length page
    pub is : s ≡ tree page at
    pub under : Under page at i

  pub inside_found : (n i : ℕ) → i < n → i < length page → (s : Tree) → Inside s (tree page i) → Found s i
  inside_found zero i l h s w = absurd (omega arith)
  inside_found (suc n) i l h s w = by (kind_of i h) w (λ j k. inside_found n j (omega arith) (omega arith) s)
    where
      here : s ≡ tree page i → Found s i
      here e = record { at = i; there = h; is = e; under = itself }

      up : (j : ℕ) → Part page j i → Found s j → Found s i
      up j p f = record { at = f.at; there = f.there; is = f.is; under = above f.under p }

      leaf_case : (f : Facet) → tree page i ≡ leaf i f → Inside s (leaf i f) → Found s i
      leaf_case f t (in_tree.itself e) = here (e ∙ sym t)

      node_case : (x y : ℕ) → item_at page i ≡ item.Tie x y → tree page i ≡ node i (tree page x) (tree page y) → Inside s (node i (tree page x) (tree page y)) → (Inside s (tree page x) → Found s x) → (Inside s (tree page y) → Found s y) → Found s i
      node_case x y e t (in_tree.itself z) f g = here (z ∙ sym t)
      node_case x y e t (in_tree.first w) f g = up x (first_part i x y h e) (f w)
      node_case x y e t (in_tree.second w) f g = up y (second_part i x y h e) (g w)

      by : Kind i → Inside s (tree page i) → ((j : ℕ) → j < i → Inside s (tree page j) → Found s j) → Found s i
      by (facet f e t) w r = leaf_case f t (subst (Inside s) t w)
      by (tie x y e t a b d) w r = node_case x y e t (subst (Inside s) t w) (r x a) (r y b)

  -- and the tree of an item stands inside that of any item above it
  pub inside_under : {k i : ℕ} → i < length page → Under page k i → Inside (tree page k) (tree page i)
  inside_under h itself = in_tree.itself refl
  inside_under {k} {i} h (above {j = j} u p) = by (kind_of i h) (inside_under (below) u)
    where
      below : j < length page
      below = let q = part_at page good j i p in omega (arith, q.0)

      by : Kind i → Inside (tree page k) (tree page j) → Inside (tree page k) (tree page i)
      by (facet f e t) w = absurd (false≢true (sym (ap (λ (z : Item). ties z j) e) ∙ p.part))
      by (tie x y e t a b d) w = ⊎_elim
          (λ (z : eqb x j ≡ true). subst (Inside (tree page k)) (sym t) (in_tree.first (subst (λ (n : ℕ). Inside (tree page k) (tree page n)) (sym (eqb-true x j z)) w)))
          (λ (z : eqb y j ≡ true). subst (Inside (tree page k)) (sym t) (in_tree.second (subst (λ (n : ℕ). Inside (tree page k) (tree page n)) (sym (eqb-true y j z)) w)))
          (or_cases (eqb x j) (eqb y j) (sym (ap (λ (z : Item). ties z j) e) ∙ p.part))

  -- ---- each item has one tie above it at most, so what lies above an item is a chain
  under_le : {k i : ℕ} → Under page k i → k ≤ i
  under_le itself = omega arith
  under_le (above {j = j} {k = k} u p) = let a = under_le u in let b = (part_at page good j k p).0 in omega arith

  -- the way up begins with the one tie
  from_below : {k i : ℕ} → Under page k i → (k ≡ i) ⊎ ((j : ℕ) × Part page k j × Under page j i)
  from_below itself = inl refl
  from_below {k} {i} (above {j = j} u p) = ⊎_elim
      (λ e. inr (i, subst (λ (n : ℕ). Part page n i) (sym e) p, itself))
      (λ r. inr (r.0, r.1, above r.2 p))
      (from_below u)

  chain : {k i j : ℕ} → Under page k i → Under page k j → Under page i j ⊎ Under page j i
  chain itself v = inl v
  chain {i = i} {j = j} (above {j = m} u p) v = ⊎_elim
      (λ (a : Under page m j). ⊎_elim
      (λ (e : m ≡ j). inr (subst (λ (n : ℕ). Under page n i) e (above itself p)))
      (λ r. inl (subst (λ (n : ℕ). Under page n j) (part_once page good m r.0 i r.1 p) r.2))
      (from_below a))
      (λ (a : Under page j m). inr (above a p))
      (chain u v)

  -- no item lies under both parts of a tie
  apart_parts : (i x y k : ℕ) → (x ≡ y → ⊥) → Part page x i → Part page y i → Under page k x → Under page k y → ⊥
  apart_parts i x y k d p q u v = ⊎_elim (λ (a : Under page x y). one x y d p q a) (λ (a : Under page y x). one y x (λ e. d (sym e)) q p a) (chain u v)
    where
      one : (x y : ℕ) → (x ≡ y → ⊥) → Part page x i → Part page y i → Under page x y → ⊥
      one x y d p q a = ⊎_elim d
          (λ r. let b = under_le r.2 in let c = (part_at page good y i q).0 in let e = part_once page good x r.0 i r.1 p in omega arith)
          (from_below a)

  pub separate : (n i : ℕ) → i < n → i < length page → Separate (tree page i)
  separate zero i l h = absurd (omega arith)
  separate (suc n) i l h = by (kind_of i h) (λ j k. separate n j (omega arith) (omega arith))
    where
      by : Kind i → ((j : ℕ) → j < i → Separate (tree page j)) → Separate (tree page i)
      by (facet f e t) r = subst Separate (sym t) tt
      by (tie x y e t a b d) r = subst Separate (sym t) (none, r x a, r y b)
        where
          -- a facet inside both parts would be one item under both
          none : (m : ℕ) (f g : Facet) → Inside (leaf m f) (tree page x) → Inside (leaf m g) (tree page y) → ⊥
          none m f g u v =
              let p = inside_found (suc x) x (omega arith) (omega arith) (leaf m f) u in
              let q = inside_found (suc y) y (omega arith) (omega arith) (leaf m g) v in
              let k : p.at ≡ m = sym (ap number p.is ∙ number_is p.at p.there) in
              let j : q.at ≡ m = sym (ap number q.is ∙ number_is q.at q.there) in
              apart_parts i x y m d (first_part i x y h e) (second_part i x y h e) (subst (λ (z : ℕ). Under page z x) k p.under) (subst (λ (z : ℕ). Under page z y) j q.under)
