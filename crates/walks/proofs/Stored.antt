-- A walk over stored hulls is the walk over the hulls that grow from the corner lists.
use Rattle.std.proofs.Common.{◌≡◌, ℕ, ◌-◌, ◌<◌, true, List, [], ◌∷◌, length, get_or, ℤ, pos, sym, refl, ap, ◌∙◌, subst, ap₂, arith}
use Rattle.std.proofs.lemmas.List.{get_or-map}
use Rattle.hull.specs.declared.corner.Corner.{Corner}
use Rattle.hull.specs.declared.direction.Direction.{Direction}
use Rattle.placement.specs.declared.parts.Placement.{Placement}
use Rattle.pairs.specs.Gaps.{Parted}
use Rattle.book.specs.declared.item.Item.{Item}
use Rattle.book.specs.Pages.{sane}
use Rattle.book.specs.Trees.{Tree, leaf, node, number, corners, tree}
use Rattle.book.specs.Hulls.{GrownFrom, GrownPage}
use Rattle.book.proofs.Growth.{from_more}
use Rattle.walks.specs.Walks.{Walk, apart, facets, tie_facet, facet_tie, ties}
use Rattle.walks.specs.Comparisons.{root, hull_over, PartedItems}
use Rattle.walks.specs.Stored.{reaches_at, PartedStored}
use Rattle.walks.proofs.Inside.{Inside, itself, first, second}
use Rattle.walks.proofs.Objects.{number_is, inside_found}

-- a walk goes the same way where the two tests agree on all that stands inside the two trees
module _ (P Q : Tree → Tree → Type 0) where
  pub record Agree (t u : Tree) : Type 0 where
    pub to : (a b : Tree) → Inside a t → Inside b u → P a b → Q a b
    pub from : (a b : Tree) → Inside a t → Inside b u → Q a b → P a b

  lower : {t u t' u' : Tree} → ((a : Tree) → Inside a t' → Inside a t) → ((a : Tree) → Inside a u' → Inside a u) → Agree t u → Agree t' u'
  lower f g e = record { to = λ a b i j. e.to a b (f a i) (g b j); from = λ a b i j. e.from a b (f a i) (g b j) }

  unless : {t u : Tree} → Agree t u → (P t u → ⊥) → Q t u → ⊥
  unless {t} {u} e h k = h (e.from t u (itself refl) (itself refl) k)

  pub walk_same : {t u : Tree} {ps : List (ℕ × ℕ)} {k : ℕ} → Agree t u → Walk P t u ps k → Walk Q t u ps k
  walk_same e (apart {t} {u} h) = apart (e.to t u (itself refl) (itself refl) h)
  walk_same e (facets h) = facets (unless e h)
  walk_same e (tie_facet h w v) = tie_facet (unless e h) (walk_same (lower (λ a. first) (λ a i. i) e) w) (walk_same (lower (λ a. second) (λ a i. i) e) v)
  walk_same e (facet_tie h w v) = facet_tie (unless e h) (walk_same (lower (λ a i. i) (λ a. first) e) w) (walk_same (lower (λ a i. i) (λ a. second) e) v)
  walk_same e (ties h w1 w2 w3 w4) =
      ties (unless e h) (walk_same (lower (λ a. first) (λ a. first) e) w1) (walk_same (lower (λ a. first) (λ a. second) e) w2)
      (walk_same (lower (λ a. second) (λ a. first) e) w3) (walk_same (lower (λ a. second) (λ a. second) e) w4)

module _ {H : Type 0} (begun : Corner → H) (grown : H → Corner → H) (reaches : H → Direction → ℤ) where
  -- an item's hull is the one that grows from its corner list
  hull_grown : (t : Tree) → GrownFrom begun grown (corners t) (hull_over begun grown reaches t)
  hull_grown (leaf n f) = refl
  hull_grown (node n t u) = from_more begun grown (hull_over begun grown reaches t) (corners t) (corners u) (hull_grown t)

  one_hull : (c : List Corner) (h k : H) → GrownFrom begun grown c h → GrownFrom begun grown c k → h ≡ k
  one_hull [] h k a b = absurd a
  one_hull (p ∷ ps) h k a b = a ∙ sym b

  -- so the stored hull of each item inside the object's last one is that
  module _ (o : List Item) (good : sane o ≡ true) (some : 0 < length o) (hs : List H) (n : length hs ≡ length o) (g : GrownPage begun grown o hs) where
    pub stored_reach : (a : Tree) → Inside a (root o) → reaches_at reaches hs (number a) ≡ reaches (hull_over begun grown reaches a)
    unfolding GrownPage
    stored_reach a i =
        let p = inside_found o good (length o) (length o - 1) (omega arith) (omega arith) a i in
        let d = hull_over begun grown reaches a in
        let k : number a ≡ p.at = ap number p.is ∙ number_is o good p.at p.there in
        let l : p.at < length hs = omega (arith, p.there) in
        let e : get_or hs p.at d ≡ hull_over begun grown reaches (tree o p.at) = one_hull (corners (tree o p.at)) _ _ (g p.at d p.there) (hull_grown (tree o p.at)) in
        ap (reaches_at reaches hs) k ∙ (get_or-map reaches hs p.at d (λ _. pos 0) l ∙ ap reaches (e ∙ ap (hull_over begun grown reaches) (sym p.is)))

  module _ (o q : List Item) (good_o : sane o ≡ true) (good_q : sane q ≡ true) (some-o : 0 < length o) (some-q : 0 < length q) (hs ks : List H) (no : length hs ≡ length o) (nq : length ks ≡ length q) (go : GrownPage begun grown o hs) (gq : GrownPage begun grown q ks) (p : Placement) where
    agree : Agree (PartedStored reaches hs ks p) (PartedItems begun grown reaches p) (root o) (root q)
    agree = record {
      to = λ a b i j. subst (λ (z : Type 0). z) (same a b i j);
      from = λ a b i j. subst (λ (z : Type 0). z) (sym (same a b i j));
    }
      where
        same : (a b : Tree) → Inside a (root o) → Inside b (root q) → PartedStored reaches hs ks p a b ≡ PartedItems begun grown reaches p a b
        same a b i j = ap₂ (λ f g. Parted f g p) (stored_reach o good_o some-o hs no go a i) (stored_reach q good_q some-q ks nq gq b j)

    pub walk_grown : {ps : List (ℕ × ℕ)} {k : ℕ} → Walk (PartedStored reaches hs ks p) (root o) (root q) ps k → Walk (PartedItems begun grown reaches p) (root o) (root q) ps k
    walk_grown w = walk_same (PartedStored reaches hs ks p) (PartedItems begun grown reaches p) agree w
