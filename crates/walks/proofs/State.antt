-- What a turn of the walk over stored hulls knows.
use Rattle.std.proofs.Common.{◌≡◌, ℕ, ◌+◌, ◌-◌, ◌*◌, ◌<◌, ◌≤◌, Bool, true, false, List, [], ◌∷◌, ◌++◌, length, get_or, take, set, ℤ, pos, Ok, Err, sym, refl, ap, ◌∙◌, subst, ap₂, subst₂, arith}
use Rattle.std.proofs.lemmas.List.{get_or-map, append-nil, take_more_set}
use Rattle.std.proofs.lemmas.Bool.{false≢true}
use Rattle.hull.specs.declared.direction.Direction.{Direction}
use Rattle.placement.specs.declared.parts.Placement.{Placement}
use Rattle.pairs.specs.Gaps.{Parted}
use Rattle.book.specs.declared.item.Item.{Item}
use Rattle.book.specs.declared.item.Item.TheVariants as item
use Rattle.book.specs.declared.refusal.Refusal.TheVariants.{ListFull}
use Rattle.book.specs.Limits.{height_limit}
use Rattle.book.specs.Pages.{sane, complete}
use Rattle.book.specs.Trees.{Tree, number, tree}
use Rattle.book.proofs.Forest.{low_at}
use Rattle.book.proofs.Wholes.{complete_parts, some_item}
use Rattle.walks.specs.Walks.{Walk}
use Rattle.walks.specs.Parts.{facets?, below}
use Rattle.walks.specs.Comparisons.{root}
use Rattle.walks.specs.Stored.{reaches_at, PartedStored}
use Rattle.walks.specs.Answers.{WalkedInto, all, first}
use Rattle.walks.proofs.Functional.{walked, walked_walks}
use Rattle.walks.proofs.Deciding.{parted?, parted_is, parted_not, parted_yes, parted_no}
use Rattle.walks.proofs.Objects.{number_is}
use Rattle.walks.proofs.Listing.{few_tests}
use Rattle.walks.proofs.Walking as walking
use Rattle.walks.proofs.Walking.{Turn, left, Next}
use Rattle.walks.proofs.Filling.{Filled, filled_more, all_held, first_held}

-- two facets lead to nothing
no_parts : (i j : ℕ) (e f : Item) → facets? e f ≡ true → below i j e f ≡ []
no_parts i j (item.Facet e) (item.Facet f) y = refl
no_parts i j (item.Facet e) (item.Tie x y) n = absurd (false≢true n)
no_parts i j (item.Tie x y) (item.Facet f) n = absurd (false≢true n)
no_parts i j (item.Tie x y) (item.Tie x' y') n = absurd (false≢true n)

-- what is walked: the items of two objects and their stored hulls, by a kind's reaches, under a placement
pub record Walked (H : Type 0) : Type 0 where
  pub reaches : H → Direction → ℤ
  pub o : List Item
  pub q : List Item
  pub hs : List H
  pub ks : List H
  pub p : Placement

module _ {H : Type 0} (w : Walked H) where
  -- does some axis part the stored hulls of the two items?
  pub test : Tree → Tree → Bool
  test t u = parted? (reaches_at w.reaches w.hs (number t)) (reaches_at w.reaches w.ks (number u)) w.p

  abbrev pub Walks : List (ℕ × ℕ) → ℕ → Type 0
  Walks = Walk (PartedStored w.reaches w.hs w.ks w.p) (root w.o) (root w.q)

  abbrev found : List (ℕ × ℕ)
  found = (walked test (root w.o) (root w.q)).0

  abbrev tested : ℕ
  tested = (walked test (root w.o) (root w.q)).1

  -- how much is left while these pairs wait
  pub left_over : List (ℕ × ℕ) → ℕ
  left_over ws = left w.o w.q test ws

  -- the pairs that wait, the list with so many pairs in it, and the tests made
  pub record State (before waiting list : List (ℕ × ℕ)) (count tests : ℕ) : Type 0 where
    pub turn : Turn w.o w.q test found tested waiting (take count list) tests
    pub filled : Filled before list count

  stored : Walks found tested
  unfolding test
  stored = walked_walks (PartedStored w.reaches w.hs w.ks w.p) test (λ t u. parted_is _ _ w.p) (λ t u. parted_not _ _ w.p) (root w.o) (root w.q)

  -- both objects are complete, and each item has a hull
  pub record Stands : Type 0 where
    pub moved : complete w.o ≡ true
    pub standing : complete w.q ≡ true
    pub moved_hulls : length w.hs ≡ length w.o
    pub standing_hulls : length w.ks ≡ length w.q

  pub begin : Stands → (before waiting : List (ℕ × ℕ)) → waiting ≡ (length w.o - 1, length w.q - 1) ∷ [] → State before waiting before 0 0
  begin k before waiting e =
      let so = some_item w.o k.moved in
      let sq = some_item w.q k.standing in
      record {
        turn = subst (λ (v : List (ℕ × ℕ)). Turn w.o w.q test found tested v [] 0) (sym e)
            (walking.begin w.o w.q test (length w.o - 1) (length w.q - 1) (omega arith) (omega arith) (low_at w.o (length w.o - 1) (omega arith) (complete_parts w.o k.moved).0) (low_at w.q (length w.q - 1) (omega arith) (complete_parts w.q k.standing).0));
        filled = record { within = omega arith; long = refl; kept = refl };
      }

  pub done : {before waiting list : List (ℕ × ℕ)} {count tests : ℕ} → length waiting ≡ 0 → State before waiting list count tests → WalkedInto Walks before list (Ok (count, tests))
  done {before} {waiting} {list} {count} {tests} z s =
      let e = walking.ended w.o w.q test z s.turn in
      let h = all_held before list count s.filled found e.0 in
      subst₂ (λ (n k : ℕ). WalkedInto Walks before list (Ok (n, k))) (sym h.0) (sym e.1) (all stored h.1)

-- a pair that is taken off the list of those that wait, so that ws waits
pub record Taken {H : Type 0} (w : Walked H) : Type 0 where
  pub stands : Stands w
  pub before : List (ℕ × ℕ)
  pub waiting : List (ℕ × ℕ)
  pub list : List (ℕ × ℕ)
  pub ws : List (ℕ × ℕ)
  pub count : ℕ
  pub tests : ℕ
  pub i : ℕ
  pub j : ℕ
  pub held : waiting ≡ ws ++ (i, j) ∷ []
  pub state : State w before waiting list count tests

module _ {H : Type 0} (w : Walked H) (k : Taken w) where
  turn : Turn w.o w.q (test w) (found w) (tested w) k.waiting (take k.count k.list) k.tests
  turn = k.state.turn

  pub inside : (k.i < length w.o) × (k.j < length w.q)
  inside = let v = walking.visited w.o w.q (test w) (found w) (tested w) k.waiting k.ws (take k.count k.list) k.tests k.i k.j k.held turn in (v.0, v.1)

  -- one more test is one of those that the walk makes
  pub counted : k.tests + 1 ≤ length w.o * length w.q
  counted = omega (arith, walking.some_left w.o w.q (test w) (found w) (tested w) k.waiting k.ws (take k.count k.list) k.tests k.i k.j k.held turn, few_tests w.o w.q k.stands.moved k.stands.standing (stored w))

  -- what a turn leads to
  pub record Goes (after list : List (ℕ × ℕ)) (count : ℕ) : Type 0 where
    pub state : State w k.before after list count (k.tests + 1)
    pub less : left_over w after < left_over w k.waiting

  abbrev LeadsTo : (after more : List (ℕ × ℕ)) → Type 0
  LeadsTo = Next w.o w.q (test w) (found w) (tested w) k.waiting k.ws (take k.count k.list) k.tests k.i k.j k.held turn

  goes : (after : List (ℕ × ℕ)) → LeadsTo after [] → Goes after k.list k.count
  unfolding left_over
  goes after n = record {
    state = record { turn = subst (λ (l : List (ℕ × ℕ)). Turn w.o w.q (test w) (found w) (tested w) after l (k.tests + 1)) (append-nil (take k.count k.list)) n.turn; filled = k.state.filled };
    less = n.less;
  }

  -- the two hulls, as they are read
  module _ (h g : H) (at-h : get_or w.hs k.i h ≡ h) (at_g : get_or w.ks k.j g ≡ g) where
    same : test w (tree w.o k.i) (tree w.q k.j) ≡ parted? (w.reaches h) (w.reaches g) w.p
    unfolding test
    same = ap₂ (λ e f. parted? e f w.p) (read w.o w.hs k.i h k.stands.moved inside.0 k.stands.moved_hulls at-h) (read w.q w.ks k.j g k.stands.standing inside.1 k.stands.standing_hulls at_g)
      where
        read : (o : List Item) (hs : List H) (i : ℕ) (h : H) → complete o ≡ true → i < length o → length hs ≡ length o → get_or hs i h ≡ h → reaches_at w.reaches hs (number (tree o i)) ≡ w.reaches h
        read o hs i h c l n e = ap (reaches_at w.reaches hs) (number_is o (complete_parts o c).0 i l) ∙ (get_or-map w.reaches hs i h (λ _. pos 0) (omega arith) ∙ ap w.reaches e)

    pub parted_goes : Parted (w.reaches h) (w.reaches g) w.p → Goes k.ws k.list k.count
    parted_goes y = goes k.ws (walking.apart_next w.o w.q (test w) (found w) (tested w) k.waiting k.ws (take k.count k.list) k.tests k.i k.j k.held turn (same ∙ parted_yes (w.reaches h) (w.reaches g) w.p y))

    pub unparted : (Parted (w.reaches h) (w.reaches g) w.p → ⊥) → test w (tree w.o k.i) (tree w.q k.j) ≡ false
    unparted n = same ∙ parted_no (w.reaches h) (w.reaches g) w.p n

  -- the two items, as they are read, where no axis parts their hulls
  module _ (e f : Item) (at-e : get_or w.o k.i e ≡ e) (at_f : get_or w.q k.j f ≡ f) (un : test w (tree w.o k.i) (tree w.q k.j) ≡ false) where
    good_o : sane w.o ≡ true
    good_o = (complete_parts w.o k.stands.moved).0

    good_q : sane w.q ≡ true
    good_q = (complete_parts w.q k.stands.standing).0

    pub room : facets? e f ≡ false → length k.ws + 3 ≤ 3 * height_limit
    room n = walking.parts_room w.o w.q (test w) (found w) (tested w) k.waiting k.ws (take k.count k.list) k.tests k.i k.j k.held turn un good_o good_q e f at-e at_f n

    pub parts_goes : facets? e f ≡ false → (after : List (ℕ × ℕ)) → after ≡ k.ws ++ below k.i k.j e f → Goes after k.list k.count
    parts_goes n after a =
        subst (λ (v : List (ℕ × ℕ)). Goes v k.list k.count) (sym a) (goes _ (walking.parts_next w.o w.q (test w) (found w) (tested w) k.waiting k.ws (take k.count k.list) k.tests k.i k.j k.held turn un good_o good_q e f at-e at_f n))

    listed : facets? e f ≡ true → LeadsTo k.ws ((k.i, k.j) ∷ [])
    listed y = walking.facets_next w.o w.q (test w) (found w) (tested w) k.waiting k.ws (take k.count k.list) k.tests k.i k.j k.held turn un good_o good_q e f at-e at_f y

    list_goes : facets? e f ≡ true → k.count < length k.list → Goes k.ws (set k.list k.count (k.i, k.j)) (k.count + 1)
    unfolding left_over
    list_goes y l = record {
      state = record {
        turn = subst (λ (z : List (ℕ × ℕ)). Turn w.o w.q (test w) (found w) (tested w) k.ws z (k.tests + 1)) (sym (take_more_set k.list k.count (k.i, k.j) l)) (listed y).turn;
        filled = filled_more k.before k.list k.count k.state.filled (k.i, k.j) l;
      };
      less = (listed y).less;
    }

    pub facets_goes : facets? e f ≡ true → k.count < length k.list → (after : List (ℕ × ℕ)) → after ≡ k.ws ++ below k.i k.j e f → Goes after (set k.list k.count (k.i, k.j)) (k.count + 1)
    facets_goes y l after a = subst (λ (v : List (ℕ × ℕ)). Goes v (set k.list k.count (k.i, k.j)) (k.count + 1)) (sym (a ∙ (ap (λ (z : List (ℕ × ℕ)). k.ws ++ z) (no_parts k.i k.j e f y) ∙ append-nil k.ws))) (list_goes y l)

    pub full : facets? e f ≡ true → length k.list ≤ k.count → WalkedInto (Walks w) k.before k.list (Err ListFull)
    full y l = first (stored w) (first_held k.before k.list k.count k.state.filled (found w) _ (k.i, k.j) l (listed y).turn.pairs)
