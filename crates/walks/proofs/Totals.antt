-- The walk ends in one way, and its tests are few.
use Rattle.std.proofs.Common.{◌≡◌, ℕ, ◌+◌, ◌*◌, ◌≤◌, ◌⊎◌, List, [], ◌∷◌, ◌++◌, inl, inr, arith}
use native.Mathlib.Nat as N
use Rattle.book.specs.Trees.{Tree, leaf, node}
use Rattle.walks.proofs.Inside.{items}
use Rattle.walks.specs.Walks.{Walk, apart, facets, tie_facet, facet_tie, ties}

module _ (Parted : Tree → Tree → Type 0) (decide : (t u : Tree) → Parted t u ⊎ (Parted t u → ⊥)) where
  -- some walk there is
  pub walk_total : (t u : Tree) → (ps : List (ℕ × ℕ)) × (n : ℕ) × Walk Parted t u ps n
  walk_total (leaf m e) (leaf n f) = by (decide (leaf m e) (leaf n f))
    where
      by : Parted (leaf m e) (leaf n f) ⊎ (Parted (leaf m e) (leaf n f) → ⊥) → (ps : List (ℕ × ℕ)) × (k : ℕ) × Walk Parted (leaf m e) (leaf n f) ps k
      by (inl h) = ([], 1, apart h)
      by (inr h) = ((m, n) ∷ [], 1, facets h)
  walk_total (node m x y) (leaf n f) = by (decide (node m x y) (leaf n f)) (walk_total x (leaf n f)) (walk_total y (leaf n f))
    where
      by : Parted (node m x y) (leaf n f) ⊎ (Parted (node m x y) (leaf n f) → ⊥) → (ps : List (ℕ × ℕ)) × (k : ℕ) × Walk Parted x (leaf n f) ps k → (ps : List (ℕ × ℕ)) × (k : ℕ) × Walk Parted y (leaf n f) ps k → (ps : List (ℕ × ℕ)) × (k : ℕ) × Walk Parted (node m x y) (leaf n f) ps k
      by (inl h) a b = ([], 1, apart h)
      by (inr h) a b = (a.0 ++ b.0, 1 + (a.1 + b.1), tie_facet h a.2 b.2)
  walk_total (leaf m e) (node n x y) = by (decide (leaf m e) (node n x y)) (walk_total (leaf m e) x) (walk_total (leaf m e) y)
    where
      by : Parted (leaf m e) (node n x y) ⊎ (Parted (leaf m e) (node n x y) → ⊥) → (ps : List (ℕ × ℕ)) × (k : ℕ) × Walk Parted (leaf m e) x ps k → (ps : List (ℕ × ℕ)) × (k : ℕ) × Walk Parted (leaf m e) y ps k → (ps : List (ℕ × ℕ)) × (k : ℕ) × Walk Parted (leaf m e) (node n x y) ps k
      by (inl h) a b = ([], 1, apart h)
      by (inr h) a b = (a.0 ++ b.0, 1 + (a.1 + b.1), facet_tie h a.2 b.2)
  walk_total (node m x y) (node n x' y') = by (decide (node m x y) (node n x' y')) (walk_total x x') (walk_total x y') (walk_total y x') (walk_total y y')
    where
      by : Parted (node m x y) (node n x' y') ⊎ (Parted (node m x y) (node n x' y') → ⊥) → (ps : List (ℕ × ℕ)) × (k : ℕ) × Walk Parted x x' ps k → (ps : List (ℕ × ℕ)) × (k : ℕ) × Walk Parted x y' ps k → (ps : List (ℕ × ℕ)) × (k : ℕ) × Walk Parted y x' ps k → (ps : List (ℕ × ℕ)) × (k : ℕ) × Walk Parted y y' ps k → (ps : List (ℕ × ℕ)) × (k : ℕ) × Walk Parted (node m x y) (node n x' y') ps k
      by (inl h) a b c d = ([], 1, apart h)
      by (inr h) a b c d = (a.0 ++ (b.0 ++ (c.0 ++ d.0)), 1 + (a.1 + (b.1 + (c.1 + d.1))), ties h a.2 b.2 c.2 d.2)

module _ {Parted : Tree → Tree → Type 0} where
  -- there are no more tests than item pairs
  pub tests_few : {t u : Tree} {ps : List (ℕ × ℕ)} {n : ℕ} → Walk Parted t u ps n → n ≤ items t * items u
  tests_few (apart {t} {u} h) = one (items t) (items u) (some t) (some u)
    where
      some : (t : Tree) → 1 ≤ items t
      some (leaf m e) = omega arith
      some (node m x y) = omega arith

      one : (a b : ℕ) → 1 ≤ a → 1 ≤ b → 1 ≤ a * b
      one a b h k = omega (arith, N.mul-le-mul h k)
  tests_few (facets h) = omega arith
  tests_few (tie_facet {x} {y} h a b) = let i = tests_few a in let j = tests_few b in omega (arith, N.mul-one (items x), N.mul-one (items y), N.mul-one (1 + (items x + items y)))
  tests_few (facet_tie {x} {y} h a b) = let i = tests_few a in let j = tests_few b in omega (arith, N.one-mul (items x), N.one-mul (items y), N.one-mul (1 + (items x + items y)))
  tests_few (ties {x} {y} {x'} {y'} h a b c d) =
      let i = tests_few a in
      let j = tests_few b in
      let k = tests_few c in
      let l = tests_few d in
      let e : (1 + (items x + items y)) * (1 + (items x' + items y')) ≡ 1 + (items x + items y) + (items x' + items y') + (items x * items x' + items x * items y' + items y * items x' + items y * items y') = simp (N.add-mul, N.mul-add) (omega arith) in
      omega arith
