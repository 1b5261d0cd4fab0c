-- The walk by a waiting list: what the pairs that wait still add, and how many tests they still make.
use Rattle.std.proofs.Common.{◌≡◌, ℕ, ◌+◌, ◌≤◌, Bool, true, false, cond, List, [], ◌∷◌, ◌++◌, fold, sym, ap, ◌∙◌, append_assoc, arith}
use Rattle.book.specs.declared.item.Facet.{Facet}
use Rattle.book.specs.Trees.{Tree, leaf, node}
use Rattle.std.proofs.lemmas.List.Sums.{fold-append}
use Rattle.walks.proofs.Functional.{Result, none, two, four, walked}

-- a pair that waits
abbrev pub Waits : Type 0
Waits = Tree × Tree

one : (b : Bool) (r : Result) → 1 ≤ r.1 → 1 ≤ (cond b none r).1
one true r h = omega arith
one false r h = h

module _ (parted : Tree → Tree → Bool) where
  -- the last to wait comes first
  unfoldable pub ahead : List Waits → List (ℕ × ℕ)
  ahead ws = fold (λ ps w. (walked parted w.0 w.1).0 ++ ps) [] ws

  unfoldable pub to_go : List Waits → ℕ
  to_go ws = fold (λ n w. (walked parted w.0 w.1).1 + n) 0 ws

  pub ahead_push : (ws : List Waits) (t u : Tree) → ahead (ws ++ (t, u) ∷ []) ≡ (walked parted t u).0 ++ ahead ws
  unfolding ahead
  ahead_push ws t u = fold-append (λ (ps : List (ℕ × ℕ)) (w : Waits). (walked parted w.0 w.1).0 ++ ps) [] ws ((t, u) ∷ [])

  pub to_go_push : (ws : List Waits) (t u : Tree) → to_go (ws ++ (t, u) ∷ []) ≡ (walked parted t u).1 + to_go ws
  unfolding to_go
  to_go_push ws t u = fold-append (λ (n : ℕ) (w : Waits). (walked parted w.0 w.1).1 + n) 0 ws ((t, u) ∷ [])

  -- a walk makes a test
  pub some_tests : (t u : Tree) → 1 ≤ (walked parted t u).1
  some_tests (leaf m e) (leaf n f) = one (parted (leaf m e) (leaf n f)) ((m, n) ∷ [], 1) (omega arith)
  some_tests (node m x y) (leaf n f) = one (parted (node m x y) (leaf n f)) (two (walked parted x (leaf n f)) (walked parted y (leaf n f))) (omega arith)
  some_tests (leaf m e) (node n x y) = one (parted (leaf m e) (node n x y)) (two (walked parted (leaf m e) x) (walked parted (leaf m e) y)) (omega arith)
  some_tests (node m x y) (node n x' y') = one (parted (node m x y) (node n x' y')) (four (walked parted x x') (walked parted x y') (walked parted y x') (walked parted y y')) (omega arith)

  -- the steps of the loop, by the pair that was taken off
  pub record Step (ws after : List Waits) (t u : Tree) (listed : List (ℕ × ℕ)) : Type 0 where
    pub pairs : ahead (ws ++ (t, u) ∷ []) ≡ listed ++ ahead after
    pub tests : to_go (ws ++ (t, u) ∷ []) ≡ 1 + to_go after

  -- a parted pair
  pub step_apart : (ws : List Waits) (t u : Tree) → parted t u ≡ true → Step ws ws t u []
  step_apart ws t u h = let e = is t u h in record { pairs = ahead_push ws t u ∙ ap (λ (r : Result). r.0 ++ ahead ws) e; tests = to_go_push ws t u ∙ ap (λ (r : Result). r.1 + to_go ws) e }
    where
      is : (t u : Tree) → parted t u ≡ true → walked parted t u ≡ none
      is (leaf m e) (leaf n f) h = ap (λ (b : Bool). cond b none ((m, n) ∷ [], 1)) h
      is (node m x y) (leaf n f) h = ap (λ (b : Bool). cond b none (two (walked parted x (leaf n f)) (walked parted y (leaf n f)))) h
      is (leaf m e) (node n x y) h = ap (λ (b : Bool). cond b none (two (walked parted (leaf m e) x) (walked parted (leaf m e) y))) h
      is (node m x y) (node n x' y') h = ap (λ (b : Bool). cond b none (four (walked parted x x') (walked parted x y') (walked parted y x') (walked parted y y'))) h

  -- two facets
  pub step_facets : (ws : List Waits) (m n : ℕ) (e f : Facet) → parted (leaf m e) (leaf n f) ≡ false → Step ws ws (leaf m e) (leaf n f) ((m, n) ∷ [])
  step_facets ws m n e f h =
      let k = ap (λ (b : Bool). cond b none ((m, n) ∷ [], 1)) h in
      record { pairs = ahead_push ws (leaf m e) (leaf n f) ∙ ap (λ (r : Result). r.0 ++ ahead ws) k; tests = to_go_push ws (leaf m e) (leaf n f) ∙ ap (λ (r : Result). r.1 + to_go ws) k }

  -- two parts on either side: the second waits below the first
  step_two : (ws : List Waits) (t u a b c d : Tree) → walked parted t u ≡ two (walked parted a b) (walked parted c d) → Step ws ((ws ++ (c, d) ∷ []) ++ (a, b) ∷ []) t u []
  step_two ws t u a b c d k = record {
    pairs = ahead_push ws t u ∙ ap (λ (r : Result). r.0 ++ ahead ws) k ∙ append_assoc (walked parted a b).0 (walked parted c d).0 (ahead ws)
        ∙ sym (ahead_push (ws ++ (c, d) ∷ []) a b ∙ ap (λ (ps : List (ℕ × ℕ)). (walked parted a b).0 ++ ps) (ahead_push ws c d));
    tests = omega (arith, to_go_push ws t u, ap (λ (r : Result). r.1) k, to_go_push (ws ++ (c, d) ∷ []) a b, to_go_push ws c d);
  }

  pub step_tie_facet : (ws : List Waits) (m n : ℕ) (x y : Tree) (f : Facet) → parted (node m x y) (leaf n f) ≡ false → Step ws ((ws ++ (y, leaf n f) ∷ []) ++ (x, leaf n f) ∷ []) (node m x y) (leaf n f) []
  step_tie_facet ws m n x y f h =
      step_two ws (node m x y) (leaf n f) x (leaf n f) y (leaf n f) (ap (λ (b : Bool). cond b none (two (walked parted x (leaf n f)) (walked parted y (leaf n f)))) h)

  pub step_facet_tie : (ws : List Waits) (m n : ℕ) (e : Facet) (x y : Tree) → parted (leaf m e) (node n x y) ≡ false → Step ws ((ws ++ (leaf m e, y) ∷ []) ++ (leaf m e, x) ∷ []) (leaf m e) (node n x y) []
  step_facet_tie ws m n e x y h =
      step_two ws (leaf m e) (node n x y) (leaf m e) x (leaf m e) y (ap (λ (b : Bool). cond b none (two (walked parted (leaf m e) x) (walked parted (leaf m e) y))) h)

  -- two ties: the last of the four waits lowest
  pub step_ties : (ws : List Waits) (m n : ℕ) (x y x' y' : Tree) → parted (node m x y) (node n x' y') ≡ false → Step ws ((((ws ++ (y, y') ∷ []) ++ (y, x') ∷ []) ++ (x, y') ∷ []) ++ (x, x') ∷ []) (node m x y) (node n x' y') []
  step_ties ws m n x y x' y' h =
      let k = ap (λ (b : Bool). cond b none (four (walked parted x x') (walked parted x y') (walked parted y x') (walked parted y y'))) h in
      let w1 = ws ++ (y, y') ∷ [] in
      let w2 = w1 ++ (y, x') ∷ [] in
      let w3 = w2 ++ (x, y') ∷ [] in
      record {
        pairs = ahead_push ws (node m x y) (node n x' y') ∙ ap (λ (r : Result). r.0 ++ ahead ws) k
            ∙ append_assoc (walked parted x x').0 ((walked parted x y').0 ++ ((walked parted y x').0 ++ (walked parted y y').0)) (ahead ws)
            ∙ ap (λ (ps : List (ℕ × ℕ)). (walked parted x x').0 ++ ps) (append_assoc (walked parted x y').0 ((walked parted y x').0 ++ (walked parted y y').0) (ahead ws)
            ∙ ap (λ (ps : List (ℕ × ℕ)). (walked parted x y').0 ++ ps) (append_assoc (walked parted y x').0 (walked parted y y').0 (ahead ws)))
            ∙ sym (ahead_push w3 x x' ∙ ap (λ (ps : List (ℕ × ℕ)). (walked parted x x').0 ++ ps) (ahead_push w2 x y'
            ∙ ap (λ (ps : List (ℕ × ℕ)). (walked parted x y').0 ++ ps) (ahead_push w1 y x' ∙ ap (λ (ps : List (ℕ × ℕ)). (walked parted y x').0 ++ ps) (ahead_push ws y y'))));
        tests = omega (arith, to_go_push ws (node m x y) (node n x' y'), ap (λ (r : Result). r.1) k, to_go_push w3 x x', to_go_push w2 x y', to_go_push w1 y x', to_go_push ws y y');
      }
