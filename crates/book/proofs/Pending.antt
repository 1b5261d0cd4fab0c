-- What waits on a stack while a hull grows, and how deep it gets.
use Rattle.std.proofs.Common.{◌≡◌, ℕ, ◌+◌, ◌<◌, ◌≤◌, List, [], ◌∷◌, ◌++◌, length, get_or, fold, sum_by, sym, refl, ap, ◌∙◌, subst, ⊎_elim, arith}
use Rattle.std.proofs.lemmas.List.{length_push, get_or_append_left, get_or_push, append_assoc, append-nil, nil_from_length}
use Rattle.std.proofs.lemmas.List.Sums.{fold_push, sum_by_push}
use Rattle.std.proofs.lemmas.Bool.{cases_lt}
use Rattle.hull.specs.declared.corner.Corner.{Corner}
use Rattle.book.specs.declared.item.Facet.{Facet}
use Rattle.book.specs.declared.item.Item.{Item}
use Rattle.book.specs.Facets.{corners_of}
use Rattle.book.specs.Limits.{height_limit}
use Rattle.book.specs.Trees.{Tree, leaf, node, height, tree, corners}

-- a fact of each entry and its place
pub Placed : {X : Type 0} (P : ℕ → X → Type 0) → List X → Type 0
Placed {X} P xs = (j : ℕ) (d : X) → j < length xs → P j (get_or xs j d)

module _ {X : Type 0} (P : ℕ → X → Type 0) where
  pub placed_none : Placed P []
  unfolding Placed
  placed_none j d h = absurd (omega arith)

  pub placed_push : (xs : List X) (x : X) → Placed P xs → P (length xs) x → Placed P (xs ++ x ∷ [])
  unfolding Placed
  placed_push xs x ps p j d h = ⊎_elim
      (λ (q : j < length xs). rw (get_or_append_left xs (x ∷ []) d j q) (ps j d q))
      (λ (q : length xs ≤ j). let z : j ≡ length xs = omega (arith, length_push xs x) in rw (get_or_push xs x d j (omega arith), z) p)
      (cases_lt j (length xs))

  pub placed_last : (xs : List X) (x : X) → Placed P (xs ++ x ∷ []) → P (length xs) x
  unfolding Placed
  placed_last xs x ps = subst (P (length xs)) (get_or_push xs x x (length xs) refl) (ps (length xs) x (omega (arith, length_push xs x)))

  pub placed_rest : (xs : List X) (x : X) → Placed P (xs ++ x ∷ []) → Placed P xs
  unfolding Placed
  placed_rest xs x ps j d h = subst (P j) (get_or_append_left xs (x ∷ []) d j h) (ps j d (omega (arith, length_push xs x)))

-- how many items a tree has
abbrev pub size_of : Tree → ℕ
size_of (leaf n f) = 1
size_of (node n t u) = 1 + (size_of t + size_of u)

module _ (page : List Item) where
  -- how many items are still to be visited
  pub weight : List ℕ → ℕ
  weight pending = sum_by (λ i. size_of (tree page i)) pending

  -- the corners that are still to come, those of the last entry first
  pub rest : List ℕ → List Corner
  rest pending = fold (λ cs i. corners (tree page i) ++ cs) [] pending

  -- an entry is an item, the lower the further up it waits
  abbrev pub Deep : ℕ → ℕ → Type 0
  Deep j i = (i < length page) × (j + height (tree page i) ≤ height_limit)

  pub weight_push : (p : List ℕ) (i : ℕ) → weight (p ++ i ∷ []) ≡ weight p + size_of (tree page i)
  unfolding weight
  weight_push p i = sum_by_push (λ i. size_of (tree page i)) p i

  pub rest_push : (p : List ℕ) (i : ℕ) → rest (p ++ i ∷ []) ≡ corners (tree page i) ++ rest p
  unfolding rest
  rest_push p i = fold_push _ [] p i

  pub rest_none : rest [] ≡ []
  unfolding rest
  rest_none = refl

  pub rest_one : (i : ℕ) → rest (i ∷ []) ≡ corners (tree page i)
  unfolding rest
  rest_one i = append-nil (corners (tree page i))

-- what is known at the start of a turn: what waits, and the hull that comes of it
pub record Growing {H : Type 0} (grown : H → Corner → H) (page : List Item) (end : H) (pending : List ℕ) (hull : H) : Type 0 where
  pub deep : Placed (Deep page) pending
  pub due : fold grown hull (rest page pending) ≡ end

module _ {H : Type 0} (grown : H → Corner → H) (page : List Item) (hull : H) where
  pub growing_one : (i : ℕ) → i < length page → height (tree page i) ≤ height_limit → Growing grown page (fold grown hull (corners (tree page i))) (i ∷ []) hull
  growing_one i h l = record { deep = placed_push (Deep page) [] i (placed_none (Deep page)) (h, omega arith); due = ap (fold grown hull) (rest_one page i) }

  pub growing_none : (end : H) (p : List ℕ) → length p ≡ 0 → Growing grown page end p hull → hull ≡ end
  growing_none end p z w = ap (λ q. fold grown hull q) (sym (rest_none page) ∙ ap (rest page) (sym (nil_from_length p z))) ∙ w.due

  module _ (end : H) (p : List ℕ) (i : ℕ) (w : Growing grown page end (p ++ i ∷ []) hull) where
    pub visited : Deep page (length p) i
    visited = placed_last (Deep page) p i w.deep

    -- a facet's corners are taken in
    pub leaf_turn : (n : ℕ) (f : Facet) → tree page i ≡ leaf n f → Growing grown page end p (fold grown hull (corners_of f))
    leaf_turn n f e = record { deep = placed_rest (Deep page) p i w.deep; due = sym (ap (fold grown hull) (rest_push page p i ∙ ap (λ t. corners t ++ rest page p) e)) ∙ w.due }

    -- a tie's parts wait in its place
    module _ (n x y : ℕ) (e : tree page i ≡ node n (tree page x) (tree page y)) where
      pub node_turn : x < length page → y < length page → Growing grown page end ((p ++ y ∷ []) ++ x ∷ []) hull
      node_turn lx ly =
          let h = ap height e in
          let r : rest page (p ++ i ∷ []) ≡ rest page ((p ++ y ∷ []) ++ x ∷ []) = rest_push page p i ∙ (ap (λ t. corners t ++ rest page p) e ∙ (append_assoc (corners (tree page x)) (corners (tree page y)) (rest page p)
          ∙ sym (rest_push page (p ++ y ∷ []) x ∙ ap (λ cs. corners (tree page x) ++ cs) (rest_push page p y)))) in
          record {
            deep = placed_push (Deep page) (p ++ y ∷ []) x
                (placed_push (Deep page) p y (placed_rest (Deep page) p i w.deep) (ly, omega (arith, visited.1)))
                (lx, omega (arith, visited.1, length_push p y));
            due = sym (ap (fold grown hull) r) ∙ w.due;
          }

      pub node_room : length p + 1 < height_limit + 1
      node_room = omega (arith, visited.1, ap height e)

module _ (page : List Item) (p : List ℕ) (i : ℕ) where
  pub weight_leaf : (n : ℕ) (f : Facet) → tree page i ≡ leaf n f → weight page p < weight page (p ++ i ∷ [])
  weight_leaf n f e = omega (arith, weight_push page p i, ap size_of e)

  pub weight_node : (n x y : ℕ) → tree page i ≡ node n (tree page x) (tree page y) → weight page ((p ++ y ∷ []) ++ x ∷ []) < weight page (p ++ i ∷ [])
  weight_node n x y e = omega (arith, weight_push page (p ++ y ∷ []) x, weight_push page p y, weight_push page p i, ap size_of e)
