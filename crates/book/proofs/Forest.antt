-- The trees of a page, read off its items, and pages that come of accepted calls.
use Rattle.std.proofs.Common.{◌≡◌, ℕ, zero, suc, ◌+◌, ◌<◌, ◌≤◌, true, false, not, ◌&&◌, eqb, ltb, List, [], ◌∷◌, ◌++◌, length, get_or, take, drop, fold, sym, refl, ap, ◌∙◌, subst, zero-le, arith}
use Rattle.std.proofs.lemmas.List.Sums.{fold-append}
use Rattle.std.proofs.lemmas.List.{length_push, length-take-le, map_push, get_or_append_left, get_or_push, take-append-drop, drop_more, append_assoc, append-nil}
use Rattle.std.proofs.lemmas.List.Sums.{fold_push}
use Rattle.std.proofs.lemmas.Bool.{and_parts, and_from, ltb-true, leb-true, eqb-false, not-true, not_from_false, lt-ltb, ne_eqb}
use Rattle.book.specs.declared.item.Facet.{Facet}
use Rattle.book.specs.declared.item.Item.{Item}
use Rattle.book.specs.declared.item.Item.TheVariants as item
use Rattle.book.specs.Limits.{height_limit}
use Rattle.book.specs.Trees.{Tree, leaf, node, height, trees, tree_of, tree, no_tree, height_at, tied, item_at}
use Rattle.book.specs.Books.{free, joinable, low, height_of_tie}
use Rattle.book.specs.Pages.{allowed, goes_on, sane, heights}

abbrev read : List Tree → Item → List Tree
read ts e = ts ++ tree_of ts e ∷ []

pub trees_push : (p : List Item) (e : Item) → trees (p ++ e ∷ []) ≡ trees p ++ tree_of (trees p) e ∷ []
unfolding trees
trees_push p e = fold_push read [] p e

length_read : (p : List Item) (ts : List Tree) → length (fold read ts p) ≡ length ts + length p
length_read [] ts = omega arith
length_read (e ∷ p) ts = omega (arith, length_read p (read ts e), length_push ts (tree_of ts e))

pub length_trees : (p : List Item) → length (trees p) ≡ length p
unfolding trees
length_trees p = omega (arith, length_read p [])

-- what is read stays
kept_read : (q : List Item) (ts : List Tree) (i : ℕ) (d : Tree) → i < length ts → get_or (fold read ts q) i d ≡ get_or ts i d
kept_read [] ts i d h = refl
kept_read (e ∷ q) ts i d h = kept_read q (read ts e) i d (omega (arith, length_push ts (tree_of ts e))) ∙ get_or_append_left ts (tree_of ts e ∷ []) d i h

front_read : (p q : List Item) (i : ℕ) → i < length (trees p) → tree (p ++ q) i ≡ tree p i
unfolding trees
front_read p q i l = ap (λ ts. get_or ts i no_tree) (fold-append read [] p q) ∙ kept_read q (fold read [] p) i no_tree l

pub tree_front : (p q : List Item) (i : ℕ) → i < length p → tree (p ++ q) i ≡ tree p i
tree_front p q i h = front_read p q i (omega (arith, length_trees p))

-- the tree of item i is read after those before it
module _ (page : List Item) (i : ℕ) (h : i < length page) where
  whole : (d : Item) → page ≡ (take i page ++ get_or page i d ∷ []) ++ drop (i + 1) page
  whole d = sym (take-append-drop i page) ∙ (ap (λ r. take i page ++ r) (drop_more page i d h) ∙ sym (append_assoc (take i page) (get_or page i d ∷ []) (drop (i + 1) page)))

  pub tree_is : (d : Item) → tree page i ≡ tree_of (trees (take i page)) (get_or page i d)
  tree_is d =
      let n = length-take-le i page (omega arith) in
      let p = take i page ++ get_or page i d ∷ [] in
      ap (λ q. tree q i) (whole d) ∙ (tree_front p (drop (i + 1) page) i (omega (arith, length_push (take i page) (get_or page i d)))
      ∙ (ap (λ ts. get_or ts i no_tree) (trees_push (take i page) (get_or page i d)) ∙ get_or_push (trees (take i page)) (tree_of (trees (take i page)) (get_or page i d)) no_tree i (omega (arith, length_trees (take i page)))))

  pub tree_before : (k : ℕ) → k < i → tree (take i page) k ≡ tree page k
  tree_before k l =
      let n = length-take-le i page (omega arith) in
      sym (ap (λ p. tree p k) (sym (take-append-drop i page)) ∙ tree_front (take i page) (drop i page) k (omega arith))

-- accepted pages
goes_on_push : (p q : List Item) (e : Item) → goes_on p (q ++ e ∷ []) ≡ (goes_on p q && allowed (p ++ q) e)
unfolding goes_on
goes_on_push p [] e = ap (λ r. allowed r e && true) (sym (append-nil p)) ∙ (elim (allowed (p ++ []) e) as (λ v. (v && true) ≡ v) [ true ↦ refl | false ↦ refl ])
goes_on_push p (f ∷ q) e =
    let ih : goes_on (p ++ f ∷ []) (q ++ e ∷ []) ≡ (goes_on (p ++ f ∷ []) q && allowed (p ++ f ∷ q) e) = goes_on_push (p ++ f ∷ []) q e ∙ ap (λ r. goes_on (p ++ f ∷ []) q && allowed r e) (append_assoc p (f ∷ []) q) in
    rw ih (elim (allowed p f) as (λ v. (v && (goes_on (p ++ f ∷ []) q && allowed (p ++ f ∷ q) e)) ≡ ((v && goes_on (p ++ f ∷ []) q) && allowed (p ++ f ∷ q) e)) [ true ↦ refl | false ↦ refl ])

pub sane_push : (p : List Item) (e : Item) → sane p ≡ true → allowed p e ≡ true → sane (p ++ e ∷ []) ≡ true
unfolding sane
sane_push p e g a = goes_on_push [] p e ∙ and_from _ _ g a

goes_on_at : (p q : List Item) (i : ℕ) (d : Item) → goes_on p q ≡ true → i < length q → allowed (p ++ take i q) (get_or q i d) ≡ true
unfolding goes_on
goes_on_at p [] i d g h = absurd (omega arith)
goes_on_at p (e ∷ q) zero d g h = rw append-nil (and_parts (allowed p e) (goes_on (p ++ e ∷ []) q) g).0
goes_on_at p (e ∷ q) (suc i) d g h = subst (λ r. allowed r (get_or q i d) ≡ true) (append_assoc p (e ∷ []) (take i q)) (goes_on_at (p ++ e ∷ []) q i d (and_parts (allowed p e) (goes_on (p ++ e ∷ []) q) g).1 (omega arith))

pub sane_at : (page : List Item) (i : ℕ) (d : Item) → sane page ≡ true → i < length page → allowed (take i page) (get_or page i d) ≡ true
unfolding sane
sane_at page i d g h = goes_on_at [] page i d g h

-- what may be tied
module _ (p : List Item) (x : ℕ) where
  pub free_yes : x < length p → tied p x ≡ false → free p x ≡ true
  unfolding free
  free_yes h t = and_from _ _ (lt-ltb x (length p) h) (not_from_false _ t)

  pub free_is : free p x ≡ true → (x < length p) × (tied p x ≡ false)
  unfolding free
  free_is f = let q = and_parts (ltb x (length p)) (not (tied p x)) f in (ltb-true x _ q.0, not-true _ q.1)

pub record Joins (p : List Item) (x y : ℕ) : Type 0 where
  pub differ : x ≡ y → ⊥
  pub x_in : x < length p
  pub y_in : y < length p
  pub x_free : tied p x ≡ false
  pub y_free : tied p y ≡ false

module _ (p : List Item) (x y : ℕ) where
  pub joins_yes : Joins p x y → joinable p x y ≡ true
  unfolding joinable
  joins_yes j = and_from _ _ (not_from_false _ (ne_eqb x y j.differ)) (and_from _ _ (free_yes p x j.x_in j.x_free) (free_yes p y j.y_in j.y_free))

  pub joins_parts : joinable p x y ≡ true → Joins p x y
  unfolding joinable
  joins_parts h =
      let q = and_parts (not (eqb x y)) (free p x && free p y) h in
      let r = and_parts (free p x) (free p y) q.1 in
      let s = free_is p x r.0 in
      let t = free_is p y r.1 in
      record { differ = eqb-false x y (not-true _ q.0); x_in = s.0; y_in = t.0; x_free = s.1; y_free = t.1 }

  pub tie_allowed : allowed p (item.Tie x y) ≡ true → Joins p x y × (height_of_tie p x y ≤ height_limit)
  unfolding low
  tie_allowed a = let q = and_parts (joinable p x y) (low p x y) a in (joins_parts q.0, leb-true _ height_limit q.1)

-- an item that may come has a height within the limit
pub height_allowed : (p : List Item) (e : Item) → allowed p e ≡ true → height (tree_of (trees p) e) ≤ height_limit
unfolding height_of_tie height_at
height_allowed p (item.Facet f) a = zero-le
height_allowed p (item.Tie x y) a = (tie_allowed p x y a).1

-- item i of an accepted page
module _ (page : List Item) (i : ℕ) (h : i < length page) where
  pub leaf_at : {e : Item} → get_or page i e ≡ e → (f : Facet) → e ≡ item.Facet f → tree page i ≡ leaf i f
  leaf_at {e} is f v =
      let n = length-take-le i page (omega arith) in
      tree_is page i h e ∙ (ap (tree_of (trees (take i page))) (is ∙ v) ∙ ap (λ k. leaf k f) (omega (arith, length_trees (take i page))))

  module _ (good : sane page ≡ true) where
    pub low_at : height (tree page i) ≤ height_limit
    low_at = let d = item_at page i in subst (λ t. height t ≤ height_limit) (sym (tree_is page i h d)) (height_allowed (take i page) (get_or page i d) (sane_at page i d good h))

    pub parts_below : {e : Item} → get_or page i e ≡ e → (x y : ℕ) → e ≡ item.Tie x y → (x < i) × (y < i)
    parts_below {e} is x y v =
        let n = length-take-le i page (omega arith) in
        let j = (tie_allowed (take i page) x y (subst (λ q. allowed (take i page) q ≡ true) (is ∙ v) (sane_at page i e good h))).0 in
        (omega (arith, j.x_in), omega (arith, j.y_in))

    pub node_at : {e : Item} → get_or page i e ≡ e → (x y : ℕ) → e ≡ item.Tie x y → tree page i ≡ node i (tree page x) (tree page y)
    node_at {e} is x y v =
        let n = length-take-le i page (omega arith) in
        let b = parts_below is x y v in
        let k : length (trees (take i page)) ≡ i = omega (arith, length_trees (take i page)) in
        let p = tree_before page i h x b.0 in
        let q = tree_before page i h y b.1 in
        tree_is page i h e ∙ (ap (tree_of (trees (take i page))) (is ∙ v) ∙ cc (k, p, q))

-- heights
pub heights_push : (p : List Item) (e : Item) → heights (p ++ e ∷ []) ≡ heights p ++ height (tree_of (trees p) e) ∷ []
unfolding heights
heights_push p e = rw trees_push (map_push height (trees p) (tree_of (trees p) e))
