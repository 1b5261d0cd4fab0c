-- A turn of the walk by item numbers.
use Rattle.std.proofs.Common.{◌≡◌, ℕ, ◌+◌, ◌*◌, ◌<◌, ◌≤◌, max, Bool, true, false, ◌⊎◌, List, [], ◌∷◌, ◌++◌, map, length, get_or, sym, refl, ap, ◌∙◌, subst, ap₂, subst₂, inl, inr, ⊎_elim, append_assoc, arith}
use Rattle.std.proofs.lemmas.List.{map_push, length_push, append-nil}
use Rattle.std.proofs.lemmas.Bool.{false≢true}
use Rattle.book.specs.declared.item.Facet.{Facet}
use Rattle.book.specs.declared.item.Item.{Item}
use Rattle.book.specs.declared.item.Item.TheVariants as item
use Rattle.book.specs.Limits.{height_limit}
use Rattle.book.specs.Pages.{sane}
use Rattle.book.specs.Trees.{Tree, leaf, node, height, tree}
use Rattle.book.proofs.Forest.{leaf_at, node_at, parts_below}
use Rattle.book.proofs.Pending.{Placed, placed_none, placed_push, placed_last, placed_rest}
use Rattle.walks.specs.Parts.{facets?, below}
use Rattle.walks.proofs.Functional.{walked}
use Rattle.walks.proofs.Waiting.{ahead, to_go, to_go_push, some_tests, Step, step_apart, step_facets, step_tie_facet, step_facet_tie, step_ties}

module _ (o q : List Item) (parted : Tree → Tree → Bool) where
  -- the pairs that wait, as trees
  pub waiting : List (ℕ × ℕ) → List (Tree × Tree)
  waiting ws = map (λ (w : ℕ × ℕ). (tree o w.0, tree q w.1)) ws

  waiting_push : (ws : List (ℕ × ℕ)) (i j : ℕ) → waiting (ws ++ (i, j) ∷ []) ≡ waiting ws ++ (tree o i, tree q j) ∷ []
  unfolding waiting
  waiting_push ws i j = map_push (λ (w : ℕ × ℕ). (tree o w.0, tree q w.1)) ws (i, j)

  -- an entry is a pair of items, the lower the further up it waits: with four more a turn, 97 places suffice
  abbrev pub Deep : ℕ → ℕ × ℕ → Type 0
  Deep k w = (w.0 < length o) × (w.1 < length q) × (k + 3 * max (height (tree o w.0)) (height (tree q w.1)) ≤ 3 * height_limit)

  -- what is known at the start of a turn
  pub record Turn (found : List (ℕ × ℕ)) (tested : ℕ) (ws listed : List (ℕ × ℕ)) (tests : ℕ) : Type 0 where
    pub deep : Placed Deep ws
    pub pairs : listed ++ ahead parted (waiting ws) ≡ found
    pub count : tests + to_go parted (waiting ws) ≡ tested

  -- how much is left
  pub left : List (ℕ × ℕ) → ℕ
  left ws = to_go parted (waiting ws)

  pub begin : (i j : ℕ) → i < length o → j < length q → height (tree o i) ≤ height_limit → height (tree q j) ≤ height_limit → Turn (walked parted (tree o i) (tree q j)).0 (walked parted (tree o i) (tree q j)).1 ((i, j) ∷ []) [] 0
  unfolding waiting ahead to_go
  begin i j hi hj li lj = record {
    deep = placed_push Deep [] (i, j) (placed_none Deep) (hi, hj, omega arith);
    pairs = append-nil (walked parted (tree o i) (tree q j)).0;
    count = omega arith;
  }

  pub ended : {found : List (ℕ × ℕ)} {tested : ℕ} {ws listed : List (ℕ × ℕ)} {tests : ℕ} → length ws ≡ 0 → Turn found tested ws listed tests → (listed ≡ found) × (tests ≡ tested)
  unfolding waiting ahead to_go
  ended {ws = []} {listed} {tests} e t = (sym (append-nil listed) ∙ t.pairs, omega (arith, t.count))
  ended {ws = w ∷ ws} e t = absurd (omega arith)

  -- the pair (i, j) is taken off, so that ws waits
  module _ (found : List (ℕ × ℕ)) (tested : ℕ) (before ws listed : List (ℕ × ℕ)) (tests i j : ℕ) (held : before ≡ ws ++ (i, j) ∷ []) (t : Turn found tested before listed tests) where
    turn : Turn found tested (ws ++ (i, j) ∷ []) listed tests
    turn = subst (λ (b : List (ℕ × ℕ)). Turn found tested b listed tests) held t

    pub visited : Deep (length ws) (i, j)
    visited = placed_last Deep ws (i, j) turn.deep

    -- the pair is one more test
    pub some_left : tests + 1 ≤ tested
    some_left = omega (arith, turn.count, ap (to_go parted) (waiting_push ws i j), to_go_push parted (waiting ws) (tree o i) (tree q j), some_tests parted (tree o i) (tree q j))

    two_more : (i j k l : ℕ) → waiting ((ws ++ (i, j) ∷ []) ++ (k, l) ∷ []) ≡ (waiting ws ++ (tree o i, tree q j) ∷ []) ++ (tree o k, tree q l) ∷ []
    two_more i j k l = waiting_push (ws ++ (i, j) ∷ []) k l ∙ ap (λ (z : List (Tree × Tree)). z ++ (tree o k, tree q l) ∷ []) (waiting_push ws i j)

    rest : Placed Deep ws
    rest = placed_rest Deep ws (i, j) turn.deep

    -- what a turn leads to: these pairs wait now, and these were listed
    pub record Next (after more : List (ℕ × ℕ)) : Type 0 where
      pub turn : Turn found tested after (listed ++ more) (tests + 1)
      pub less : left after < left before

    -- a step leads to the next turn
    module _ (after more : List (ℕ × ℕ)) (deep : Placed Deep after) (s : Step parted (waiting ws) (waiting after) (tree o i) (tree q j) more) where
      next : Turn found tested after (listed ++ more) (tests + 1)
      next = record {
        deep = deep;
        pairs = append_assoc listed more (ahead parted (waiting after)) ∙ ap (λ (ps : List (ℕ × ℕ)). listed ++ ps) (sym s.pairs ∙ ap (ahead parted) (sym (waiting_push ws i j))) ∙ turn.pairs;
        count = omega (arith, turn.count, ap (to_go parted) (waiting_push ws i j), s.tests);
      }

      less : left after < left before
      unfolding left
      less = omega (arith, ap (λ (b : List (ℕ × ℕ)). to_go parted (waiting b)) held, ap (to_go parted) (waiting_push ws i j), s.tests)

      stepped : Next after more
      stepped = record { turn = next; less = less }

    -- a parted pair adds nothing
    pub apart_next : parted (tree o i) (tree q j) ≡ true → Next ws []
    apart_next h = stepped ws [] rest (step_apart parted (waiting ws) (tree o i) (tree q j) h)

    -- by what the two items are
    module _ (h : parted (tree o i) (tree q j) ≡ false) where
      facets_step : (e f : Facet) → tree o i ≡ leaf i e → tree q j ≡ leaf j f → Step parted (waiting ws) (waiting ws) (tree o i) (tree q j) ((i, j) ∷ [])
      facets_step e f a b =
          subst₂ (λ (x y : Tree). Step parted (waiting ws) (waiting ws) x y ((i, j) ∷ [])) (sym a) (sym b) (step_facets parted (waiting ws) i j e f (sym (ap₂ parted a b) ∙ h))

      -- a tie and a facet
      module _ (x y : ℕ) (a : tree o i ≡ node i (tree o x) (tree o y)) (lx : x < length o) (ly : y < length o) (f : Facet) (b : tree q j ≡ leaf j f) where
        tie_facet_step : Step parted (waiting ws) (waiting ((ws ++ (y, j) ∷ []) ++ (x, j) ∷ [])) (tree o i) (tree q j) []
        tie_facet_step =
            subst (λ (k : List (Tree × Tree)). Step parted (waiting ws) k (tree o i) (tree q j) []) (sym (two_more y j x j))
            (subst₂ (λ (T U : Tree). Step parted (waiting ws) ((waiting ws ++ (tree o y, U) ∷ []) ++ (tree o x, U) ∷ []) T U []) (sym a) (sym b) (step_tie_facet parted (waiting ws) i j (tree o x) (tree o y) f (sym (ap₂ parted a b) ∙ h)))

        tie_facet_deep : Placed Deep ((ws ++ (y, j) ∷ []) ++ (x, j) ∷ [])
        tie_facet_deep =
            let v = visited in
            let e = ap height a in
            let g = ap height b in
            placed_push Deep (ws ++ (y, j) ∷ []) (x, j) (placed_push Deep ws (y, j) rest (ly, v.1, omega arith)) (lx, v.1, omega (arith, length_push ws (y, j)))

      -- a facet and a tie
      module _ (e : Facet) (a : tree o i ≡ leaf i e) (x y : ℕ) (b : tree q j ≡ node j (tree q x) (tree q y)) (lx : x < length q) (ly : y < length q) where
        facet_tie_step : Step parted (waiting ws) (waiting ((ws ++ (i, y) ∷ []) ++ (i, x) ∷ [])) (tree o i) (tree q j) []
        facet_tie_step =
            subst (λ (k : List (Tree × Tree)). Step parted (waiting ws) k (tree o i) (tree q j) []) (sym (two_more i y i x))
            (subst₂ (λ (T U : Tree). Step parted (waiting ws) ((waiting ws ++ (T, tree q y) ∷ []) ++ (T, tree q x) ∷ []) T U []) (sym a) (sym b) (step_facet_tie parted (waiting ws) i j e (tree q x) (tree q y) (sym (ap₂ parted a b) ∙ h)))

        facet_tie_deep : Placed Deep ((ws ++ (i, y) ∷ []) ++ (i, x) ∷ [])
        facet_tie_deep =
            let v = visited in
            let z = ap height a in
            let g = ap height b in
            placed_push Deep (ws ++ (i, y) ∷ []) (i, x) (placed_push Deep ws (i, y) rest (v.0, ly, omega arith)) (v.0, lx, omega (arith, length_push ws (i, y)))

      -- two ties
      module _ (x y : ℕ) (a : tree o i ≡ node i (tree o x) (tree o y)) (lx : x < length o) (ly : y < length o) (x' y' : ℕ) (b : tree q j ≡ node j (tree q x') (tree q y')) (lx' : x' < length q) (ly' : y' < length q) where
        abbrev four_after : List (ℕ × ℕ)
        four_after = (((ws ++ (y, y') ∷ []) ++ (y, x') ∷ []) ++ (x, y') ∷ []) ++ (x, x') ∷ []

        ties_step : Step parted (waiting ws) (waiting four_after) (tree o i) (tree q j) []
        ties_step =
            subst (λ (k : List (Tree × Tree)). Step parted (waiting ws) k (tree o i) (tree q j) [])
            (sym (waiting_push ((((ws ++ (y, y') ∷ []) ++ (y, x') ∷ []) ++ (x, y') ∷ [])) x x' ∙ ap (λ (k : List (Tree × Tree)). k ++ (tree o x, tree q x') ∷ []) (waiting_push ((ws ++ (y, y') ∷ []) ++ (y, x') ∷ []) x y' ∙ ap (λ (k : List (Tree × Tree)). k ++ (tree o x, tree q y') ∷ []) (two_more y y' y x'))))
            (subst₂ (λ (T U : Tree). Step parted (waiting ws) ((((waiting ws ++ (tree o y, tree q y') ∷ []) ++ (tree o y, tree q x') ∷ []) ++ (tree o x, tree q y') ∷ []) ++ (tree o x, tree q x') ∷ []) T U []) (sym a) (sym b) (step_ties parted (waiting ws) i j (tree o x) (tree o y) (tree q x') (tree q y') (sym (ap₂ parted a b) ∙ h)))

        ties_deep : Placed Deep four_after
        ties_deep =
            let v = visited in
            let z = ap height a in
            let g = ap height b in
            let n1 = length_push ws (y, y') in
            let n2 = length_push (ws ++ (y, y') ∷ []) (y, x') in
            let n3 = length_push ((ws ++ (y, y') ∷ []) ++ (y, x') ∷ []) (x, y') in
            placed_push Deep (((ws ++ (y, y') ∷ []) ++ (y, x') ∷ []) ++ (x, y') ∷ []) (x, x')
            (placed_push Deep ((ws ++ (y, y') ∷ []) ++ (y, x') ∷ []) (x, y')
            (placed_push Deep (ws ++ (y, y') ∷ []) (y, x') (placed_push Deep ws (y, y') rest (ly, ly', omega arith)) (ly, lx', omega arith)) (lx, ly', omega arith)) (lx, lx', omega arith)

      -- so there is room for what a turn adds
      room : (1 ≤ height (tree o i)) ⊎ (1 ≤ height (tree q j)) → length ws + 3 ≤ 3 * height_limit
      room r = let v = visited in ⊎_elim (λ (k : 1 ≤ height (tree o i)). omega arith) (λ (k : 1 ≤ height (tree q j)). omega arith) r

      -- by the two items, as they are read
      module _ (good_o : sane o ≡ true) (good_q : sane q ≡ true) where
        -- the parts of item i of the moved object, and of item j of the standing one
        moved_parts : {e : Item} → get_or o i e ≡ e → (x y : ℕ) → e ≡ item.Tie x y → (tree o i ≡ node i (tree o x) (tree o y)) × (x < length o) × (y < length o)
        moved_parts a x y v = let l = visited.0 in let b = parts_below o i l good_o a x y v in (node_at o i l good_o a x y v, omega (arith, b.0), omega (arith, b.1))

        standing_parts : {e : Item} → get_or q j e ≡ e → (x y : ℕ) → e ≡ item.Tie x y → (tree q j ≡ node j (tree q x) (tree q y)) × (x < length q) × (y < length q)
        standing_parts a x y v = let l = visited.1 in let b = parts_below q j l good_q a x y v in (node_at q j l good_q a x y v, omega (arith, b.0), omega (arith, b.1))

        -- two facets are listed
        pub facets_next : (e f : Item) → get_or o i e ≡ e → get_or q j f ≡ f → facets? e f ≡ true → Next ws ((i, j) ∷ [])
        facets_next (item.Facet e) (item.Facet f) a b y =
            stepped ws ((i, j) ∷ []) rest (facets_step e f (leaf_at o i visited.0 a e refl) (leaf_at q j visited.1 b f refl))
        facets_next (item.Facet e) (item.Tie x y) a b n = absurd (false≢true n)
        facets_next (item.Tie x y) (item.Facet f) a b n = absurd (false≢true n)
        facets_next (item.Tie x y) (item.Tie x' y') a b n = absurd (false≢true n)

        -- parts wait
        pub parts_next : (e f : Item) → get_or o i e ≡ e → get_or q j f ≡ f → facets? e f ≡ false → Next (ws ++ below i j e f) []
        parts_next (item.Facet e) (item.Facet f) a b n = absurd (false≢true (sym n))
        parts_next (item.Facet e) (item.Tie x y) a b n =
            let l = leaf_at o i visited.0 a e refl in
            let r = standing_parts b x y refl in
            subst (λ (k : List (ℕ × ℕ)). Next k []) (append_assoc ws ((i, y) ∷ []) ((i, x) ∷ []))
            (stepped _ [] (facet_tie_deep e l x y r.0 r.1 r.2) (facet_tie_step e l x y r.0 r.1 r.2))
        parts_next (item.Tie x y) (item.Facet f) a b n =
            let l = moved_parts a x y refl in
            let r = leaf_at q j visited.1 b f refl in
            subst (λ (k : List (ℕ × ℕ)). Next k []) (append_assoc ws ((y, j) ∷ []) ((x, j) ∷ []))
            (stepped _ [] (tie_facet_deep x y l.0 l.1 l.2 f r) (tie_facet_step x y l.0 l.1 l.2 f r))
        parts_next (item.Tie x y) (item.Tie x' y') a b n =
            let l = moved_parts a x y refl in
            let r = standing_parts b x' y' refl in
            subst (λ (k : List (ℕ × ℕ)). Next k [])
            (append_assoc ((ws ++ (y, y') ∷ []) ++ (y, x') ∷ []) ((x, y') ∷ []) ((x, x') ∷ []) ∙ append_assoc (ws ++ (y, y') ∷ []) ((y, x') ∷ []) ((x, y') ∷ (x, x') ∷ []) ∙ append_assoc ws ((y, y') ∷ []) ((y, x') ∷ (x, y') ∷ (x, x') ∷ []))
            (stepped _ [] (ties_deep x y l.0 l.1 l.2 x' y' r.0 r.1 r.2) (ties_step x y l.0 l.1 l.2 x' y' r.0 r.1 r.2))

        -- and there are places for them
        pub parts_room : (e f : Item) → get_or o i e ≡ e → get_or q j f ≡ f → facets? e f ≡ false → length ws + 3 ≤ 3 * height_limit
        parts_room (item.Facet e) (item.Facet f) a b n = absurd (false≢true (sym n))
        parts_room (item.Facet e) (item.Tie x y) a b n = room (inr (omega (arith, ap height (standing_parts b x y refl).0)))
        parts_room (item.Tie x y) (item.Facet f) a b n = room (inl (omega (arith, ap height (moved_parts a x y refl).0)))
        parts_room (item.Tie x y) (item.Tie x' y') a b n = room (inl (omega (arith, ap height (moved_parts a x y refl).0)))
