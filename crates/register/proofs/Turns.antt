-- A turn of the loop that grows a hull over an item.
use Rattle.std.proofs.Common.{◌≡◌, ℕ, ◌+◌, ◌<◌, true, List, [], ◌∷◌, ◌++◌, length, get_or, fold, subst, arith}
use Rattle.hull.specs.declared.corner.Corner.{Corner}
use Rattle.book.specs.declared.item.Facet.{Facet}
use Rattle.book.specs.declared.item.Item.TheVariants as item
use Rattle.book.specs.Facets.{corners_of}
use Rattle.book.specs.Limits.{height_limit}
use Rattle.book.specs.Pages.{sane}
use Rattle.book.proofs.Pending.{Growing, weight, visited, leaf_turn, node_turn, node_room, weight_leaf, weight_node}
use Rattle.register.specs.declared.place.Place.{Place}
use Rattle.register.specs.Tables.{items_of}
use Rattle.register.proofs.Fields.{length_items}
use Rattle.register.proofs.Reading.{leaf_read, node_read, parts_read}

-- item i is popped, so that p waits
module _ {H : Type 0} (grown : H → Corner → H) (t : List (Place H)) (end hull : H) (before p : List ℕ) (i : ℕ) (held : before ≡ p ++ i ∷ []) (w : Growing grown (items_of t) end before hull) where
  turn : Growing grown (items_of t) end (p ++ i ∷ []) hull
  turn = subst (λ q. Growing grown (items_of t) end q hull) held w

  pub inside : i < length t
  inside = omega (arith, (visited grown (items_of t) hull end p i turn).0, length_items t)

  module _ (q : Place H) (is : q ≡ get_or t i q) where
    pub facet_turn : (f : Facet) → q.item ≡ item.Facet f → Growing grown (items_of t) end p (fold grown hull (corners_of f))
    facet_turn f v = leaf_turn grown (items_of t) hull end p i turn i f (leaf_read t i q inside is f v)

    pub facet_less : (f : Facet) → q.item ≡ item.Facet f → weight (items_of t) p < weight (items_of t) before
    facet_less f v = rw held (weight_leaf (items_of t) p i i f (leaf_read t i q inside is f v))

    module _ (good : sane (items_of t) ≡ true) (x y : ℕ) (v : q.item ≡ item.Tie x y) where
      pub tie_room : length p + 1 < height_limit + 1
      tie_room = node_room grown (items_of t) hull end p i turn i x y (node_read t i q inside is good x y v)

      module _ (after : List ℕ) (pushed : after ≡ (p ++ y ∷ []) ++ x ∷ []) where
        pub tie_turn : Growing grown (items_of t) end after hull
        tie_turn =
            let b = parts_read t i q inside is good x y v in
            rw pushed (node_turn grown (items_of t) hull end p i turn i x y (node_read t i q inside is good x y v) (omega (arith, b.0, length_items t)) (omega (arith, b.1, length_items t)))

        pub tie_less : weight (items_of t) after < weight (items_of t) before
        tie_less = rw (held, pushed) (weight_node (items_of t) p i i x y (node_read t i q inside is good x y v))
