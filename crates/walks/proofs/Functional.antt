-- A walk ends in one way only.
use Rattle.std.proofs.Common.{◌≡◌, ℕ, ◌+◌, Bool, true, false, cond, ◌⊎◌, List, [], ◌∷◌, ◌++◌, sym, refl, ap, ◌∙◌, subst, ap₂, inl, inr}
use Rattle.book.specs.Trees.{Tree, leaf, node}
use Rattle.walks.proofs.Totals.{walk_total}
use Rattle.walks.specs.Walks.{Walk, apart, facets, tie_facet, facet_tie, ties}

-- pairs and tests
abbrev pub Result : Type 0
Result = List (ℕ × ℕ) × ℕ

abbrev pub none : Result
none = ([], 1)

abbrev pub two : Result → Result → Result
two a b = (a.0 ++ b.0, 1 + (a.1 + b.1))

abbrev pub four : Result → Result → Result → Result → Result
four a b c d = (a.0 ++ (b.0 ++ (c.0 ++ d.0)), 1 + (a.1 + (b.1 + (c.1 + d.1))))

module _ (parted : Tree → Tree → Bool) where
  -- the walk as a function
  abbrev pub walked : Tree → Tree → Result
  walked (leaf m e) (leaf n f) = cond (parted (leaf m e) (leaf n f)) none ((m, n) ∷ [], 1)
  walked (node m x y) (leaf n f) = cond (parted (node m x y) (leaf n f)) none (two (walked x (leaf n f)) (walked y (leaf n f)))
  walked (leaf m e) (node n x y) = cond (parted (leaf m e) (node n x y)) none (two (walked (leaf m e) x) (walked (leaf m e) y))
  walked (node m x y) (node n x' y') = cond (parted (node m x y) (node n x' y')) none (four (walked x x') (walked x y') (walked y x') (walked y y'))

module _ (Parted : Tree → Tree → Type 0) (parted : Tree → Tree → Bool) (yes : (t u : Tree) → Parted t u → parted t u ≡ true) (not : (t u : Tree) → (Parted t u → ⊥) → parted t u ≡ false) where
  apart_is : (t u : Tree) → parted t u ≡ true → none ≡ walked parted t u
  apart_is (leaf m e) (leaf n f) h = sym (ap (λ (b : Bool). cond b none ((m, n) ∷ [], 1)) h)
  apart_is (node m x y) (leaf n f) h = sym (ap (λ (b : Bool). cond b none (two (walked parted x (leaf n f)) (walked parted y (leaf n f)))) h)
  apart_is (leaf m e) (node n x y) h = sym (ap (λ (b : Bool). cond b none (two (walked parted (leaf m e) x) (walked parted (leaf m e) y))) h)
  apart_is (node m x y) (node n x' y') h = sym (ap (λ (b : Bool). cond b none (four (walked parted x x') (walked parted x y') (walked parted y x') (walked parted y y'))) h)

  walk_is : {t u : Tree} {ps : List (ℕ × ℕ)} {k : ℕ} → Walk Parted t u ps k → ◌≡◌ {A = Result} (ps, k) (walked parted t u)
  walk_is (apart {t} {u} h) = apart_is t u (yes t u h)
  walk_is (facets {m} {n} {e} {f} h) = sym (ap (λ (b : Bool). cond b none ((m, n) ∷ [], 1)) (not (leaf m e) (leaf n f) h))
  walk_is (tie_facet {m} {n} {x} {y} {f} h w v) =
      ap₂ two (walk_is w) (walk_is v) ∙ sym (ap (λ (b : Bool). cond b none (two (walked parted x (leaf n f)) (walked parted y (leaf n f)))) (not (node m x y) (leaf n f) h))
  walk_is (facet_tie {m} {n} {x} {y} {e} h w v) =
      ap₂ two (walk_is w) (walk_is v) ∙ sym (ap (λ (b : Bool). cond b none (two (walked parted (leaf m e) x) (walked parted (leaf m e) y))) (not (leaf m e) (node n x y) h))
  walk_is (ties {m} {n} {x} {y} {x'} {y'} {rs} {ss} {k} {l} h w1 w2 w3 w4) =
      ap₂ (λ a b. four a b (rs, k) (ss, l)) (walk_is w1) (walk_is w2) ∙ ap₂ (λ a b. four (walked parted x x') (walked parted x y') a b) (walk_is w3) (walk_is w4)
      ∙ sym (ap (λ (b : Bool). cond b none (four (walked parted x x') (walked parted x y') (walked parted y x') (walked parted y y'))) (not (node m x y) (node n x' y') h))

  pub walk_functional : {t u : Tree} {ps qs : List (ℕ × ℕ)} {k l : ℕ} → Walk Parted t u ps k → Walk Parted t u qs l → (ps ≡ qs) × (k ≡ l)
  walk_functional w v = let e = walk_is w ∙ sym (walk_is v) in (ap (λ (r : Result). r.0) e, ap (λ (r : Result). r.1) e)

module _ (Parted : Tree → Tree → Type 0) (parted : Tree → Tree → Bool) (is : (t u : Tree) → parted t u ≡ true → Parted t u) (not : (t u : Tree) → parted t u ≡ false → Parted t u → ⊥) where
  decide : (t u : Tree) → Parted t u ⊎ (Parted t u → ⊥)
  decide t u = by (parted t u) refl
    where
      by : (b : Bool) → parted t u ≡ b → Parted t u ⊎ (Parted t u → ⊥)
      by true e = inl (is t u e)
      by false e = inr (not t u e)

  yes : (t u : Tree) → Parted t u → parted t u ≡ true
  yes t u h = by (parted t u) refl
    where
      by : (b : Bool) → parted t u ≡ b → b ≡ true
      by true e = refl
      by false e = absurd (not t u e h)

  no : (t u : Tree) → (Parted t u → ⊥) → parted t u ≡ false
  no t u h = by (parted t u) refl
    where
      by : (b : Bool) → parted t u ≡ b → b ≡ false
      by true e = absurd (h (is t u e))
      by false e = refl

  -- the function gives the walk
  pub walked_walks : (t u : Tree) → Walk Parted t u (walked parted t u).0 (walked parted t u).1
  walked_walks t u = let r = walk_total Parted decide t u in subst (λ (z : Result). Walk Parted t u z.0 z.1) (walk_is Parted parted yes no r.2) r.2
