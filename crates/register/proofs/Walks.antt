-- A turn of the walk over the places of two objects.
use Rattle.std.proofs.Common.{◌≡◌, ℕ, ◌+◌, ◌*◌, ◌<◌, ◌≤◌, true, false, List, [], ◌∷◌, ◌++◌, length, take, get_or, set, ℤ, Ok, Err, sym, ◌∙◌, mul-le-mul, arith}
use Rattle.std.proofs.lemmas.List.{length-take}
use Rattle.hull.specs.declared.direction.Direction.{Direction}
use Rattle.placement.specs.declared.parts.Placement.{Placement}
use Rattle.pairs.specs.Gaps.{Parted}
use Rattle.book.specs.declared.refusal.Refusal.TheVariants.{ListFull}
use Rattle.book.specs.Limits.{height_limit, place_limit}
use Rattle.book.specs.Pages.{complete}
use Rattle.book.specs.Trees.{tree}
use Rattle.walks.specs.Parts.{facets?, below}
use Rattle.walks.specs.Answers.{WalkedInto}
use Rattle.walks.proofs.State.{Walked, Walks, State, Stands, Taken, Goes}
use Rattle.walks.proofs.State as state
use Rattle.register.specs.declared.place.Place.{Place}
use Rattle.register.specs.Tables.{items_of, hulls_of}
use Rattle.register.specs.Comparing.{WalkStored}
use Rattle.register.proofs.Fields.{length_items, length_hulls}
use Rattle.register.proofs.Reading.{item_is, hull_is}

module _ {H : Type 0} (reaches : H → Direction → ℤ) (moved standing : List (Place H)) (p : Placement) where
  -- what is walked
  abbrev pub walked_of : Walked H
  walked_of = record { reaches = reaches; o = items_of moved; q = items_of standing; hs = hulls_of moved; ks = hulls_of standing; p = p }

  pub stands : complete (items_of moved) ≡ true → complete (items_of standing) ≡ true → Stands walked_of
  stands a b = record { moved = a; standing = b; moved_hulls = length_hulls moved ∙ sym (length_items moved); standing_hulls = length_hulls standing ∙ sym (length_items standing) }

  -- a pair that is popped
  abbrev pub popped : complete (items_of moved) ≡ true → complete (items_of standing) ≡ true → (before waiting list ws : List (ℕ × ℕ)) (count tests i j : ℕ) → waiting ≡ ws ++ (i, j) ∷ [] → State walked_of before waiting list count tests → Taken walked_of
  popped a b before waiting list ws count tests i j held s =
      record { stands = stands a b; before = before; waiting = waiting; list = list; ws = ws; count = count; tests = tests; i = i; j = j; held = held; state = s }

  -- where nothing waits, the walk is done
  pub ended : (before places list : List (ℕ × ℕ)) (n count tests : ℕ) → n ≡ 0 → State walked_of before (take n places) list count tests → WalkedInto (WalkStored reaches moved standing p) before list (Ok (count, tests))
  ended before places list n count tests e s = let z : length (take n places) ≡ 0 = omega (arith, length-take n places, e) in state.done walked_of z s

  module _ (k : Taken walked_of) where
    pub in_moved : k.i < length moved
    in_moved = omega (arith, (state.inside walked_of k).0, length_items moved)

    pub in_standing : k.j < length standing
    in_standing = omega (arith, (state.inside walked_of k).1, length_items standing)

    pub counted : length moved ≤ place_limit → length standing ≤ place_limit → k.tests + 1 ≤ place_limit * place_limit
    counted a b =
        let m : length (items_of moved) ≤ place_limit = omega (arith, length_items moved) in
        let n : length (items_of standing) ≤ place_limit = omega (arith, length_items standing) in
        omega (arith, state.counted walked_of k, mul-le-mul m n)

    -- the two places, as they are read
    module _ (l r : Place H) (is-l : l ≡ get_or moved k.i l) (is-r : r ≡ get_or standing k.j r) where
      pub parted_goes : Parted (reaches l.hull) (reaches r.hull) p → Goes walked_of k k.ws k.list k.count
      parted_goes = state.parted_goes walked_of k l.hull r.hull (hull_is moved k.i l in_moved is-l) (hull_is standing k.j r in_standing is-r)

      module _ (un : Parted (reaches l.hull) (reaches r.hull) p → ⊥) where
        un_test : state.test walked_of (tree (items_of moved) k.i) (tree (items_of standing) k.j) ≡ false
        un_test = state.unparted walked_of k l.hull r.hull (hull_is moved k.i l in_moved is-l) (hull_is standing k.j r in_standing is-r) un

        at_l : get_or (items_of moved) k.i l.item ≡ l.item
        at_l = item_is moved k.i l in_moved is-l

        at_r : get_or (items_of standing) k.j r.item ≡ r.item
        at_r = item_is standing k.j r in_standing is-r

        pub room : facets? l.item r.item ≡ false → length k.ws + 3 ≤ 3 * height_limit
        room = state.room walked_of k l.item r.item at_l at_r un_test

        pub parts_goes : facets? l.item r.item ≡ false → (after : List (ℕ × ℕ)) → after ≡ k.ws ++ below k.i k.j l.item r.item → Goes walked_of k after k.list k.count
        parts_goes = state.parts_goes walked_of k l.item r.item at_l at_r un_test

        pub facets_goes : facets? l.item r.item ≡ true → k.count < length k.list → (after : List (ℕ × ℕ)) → after ≡ k.ws ++ below k.i k.j l.item r.item → Goes walked_of k after (set k.list k.count (k.i, k.j)) (k.count + 1)
        facets_goes = state.facets_goes walked_of k l.item r.item at_l at_r un_test

        pub full : facets? l.item r.item ≡ true → length k.list ≤ k.count → WalkedInto (Walks walked_of) k.before k.list (Err ListFull)
        full = state.full walked_of k l.item r.item at_l at_r un_test
