-- What is read from the places of a page.
use Rattle.std.proofs.Common.{◌≡◌, ℕ, ◌<◌, ◌≤◌, true, false, List, length, get_or, sym, ap, ◌∙◌, arith}
use Rattle.std.proofs.lemmas.List.{get_or-map}
use Rattle.book.specs.declared.item.Facet.{Facet}
use Rattle.book.specs.declared.item.Item.TheVariants as item
use Rattle.book.specs.Limits.{height_limit}
use Rattle.book.specs.Trees.{height, tree, trees, no_tree, height_at, tied, flags, leaf, node}
use Rattle.book.specs.Pages.{sane, heights}
use Rattle.book.proofs.Forest.{length_trees, low_at, leaf_at, node_at, parts_below}
use Rattle.book.proofs.Flags.{get_or_flags}
use Rattle.register.specs.declared.place.Place.{Place}
use Rattle.register.specs.Tables.{items_of, heights_of, tieds_of, hulls_of}
use Rattle.register.proofs.Fields.{length_items, items_at, heights_at, tieds_at, hulls_at}

module _ {H : Type 0} (t : List (Place H)) (i : ℕ) (p : Place H) (h : i < length t) (is : p ≡ get_or t i p) where
  pub tied_read : tieds_of t ≡ flags (items_of t) → tied (items_of t) i ≡ p.tied
  tied_read e = sym (get_or_flags (items_of t) i false (omega (arith, length_items t))) ∙ (ap (λ l. get_or l i false) (sym e) ∙ (tieds_at t i p h false ∙ ap (λ (q : Place H). q.tied) (sym is)))

  pub height_read : heights_of t ≡ heights (items_of t) → height_at (items_of t) i ≡ p.height
  unfolding height_at heights
  height_read e = sym (get_or-map height (trees (items_of t)) i no_tree 0 (omega (arith, length_trees (items_of t), length_items t))) ∙ (ap (λ l. get_or l i 0) (sym e) ∙ (heights_at t i p h 0 ∙ ap (λ (q : Place H). q.height) (sym is)))

  pub hull_is : get_or (hulls_of t) i p.hull ≡ p.hull
  hull_is = hulls_at t i p h p.hull ∙ ap (λ (q : Place H). q.hull) (sym is)

  pub item_is : get_or (items_of t) i p.item ≡ p.item
  item_is = items_at t i p h p.item ∙ ap (λ (q : Place H). q.item) (sym is)

  pub leaf_read : (f : Facet) → p.item ≡ item.Facet f → tree (items_of t) i ≡ leaf i f
  leaf_read f v = leaf_at (items_of t) i (omega (arith, length_items t)) item_is f v

  module _ (good : sane (items_of t) ≡ true) where
    pub low_read : height_at (items_of t) i ≤ height_limit
    unfolding height_at
    low_read = low_at (items_of t) i (omega (arith, length_items t)) good

    pub node_read : (x y : ℕ) → p.item ≡ item.Tie x y → tree (items_of t) i ≡ node i (tree (items_of t) x) (tree (items_of t) y)
    node_read x y v = node_at (items_of t) i (omega (arith, length_items t)) good item_is x y v

    pub parts_read : (x y : ℕ) → p.item ≡ item.Tie x y → (x < length t) × (y < length t)
    parts_read x y v = let b = parts_below (items_of t) i (omega (arith, length_items t)) good item_is x y v in (omega (arith, b.0), omega (arith, b.1))
