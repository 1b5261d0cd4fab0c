-- The walk over two trees.
use Rattle.std.specs.Prelude.{ℕ, ◌+◌, List, [], ◌∷◌, ◌++◌}
use mathlib.Core.List.{Memᴰ}
use Rattle.book.specs.declared.item.Facet.{Facet}
use Rattle.book.specs.Trees.{Tree, leaf, node}

-- walking the two items, of which `Parted` says that some axis parts their hulls, adds these pairs and makes so many tests
pub data Walk (Parted : Tree → Tree → Type 0) : Tree → Tree → List (ℕ × ℕ) → ℕ → Type 0 where
  -- a parted pair adds nothing
  apart : {t u : Tree} → Parted t u → Walk Parted t u [] 1
  -- two facets add their pair
  facets : {m n : ℕ} {e f : Facet} → (Parted (leaf m e) (leaf n f) → ⊥) → Walk Parted (leaf m e) (leaf n f) ((m, n) ∷ []) 1
  -- of a tie and a facet, the first and then the second part are walked against the facet
  tie_facet : {m n : ℕ} {x y : Tree} {f : Facet} {ps qs : List (ℕ × ℕ)} {i j : ℕ} → (Parted (node m x y) (leaf n f) → ⊥)
      → Walk Parted x (leaf n f) ps i → Walk Parted y (leaf n f) qs j → Walk Parted (node m x y) (leaf n f) (ps ++ qs) (1 + (i + j))
  facet_tie : {m n : ℕ} {x y : Tree} {e : Facet} {ps qs : List (ℕ × ℕ)} {i j : ℕ} → (Parted (leaf m e) (node n x y) → ⊥)
      → Walk Parted (leaf m e) x ps i → Walk Parted (leaf m e) y qs j → Walk Parted (leaf m e) (node n x y) (ps ++ qs) (1 + (i + j))
  -- of two ties, x x', x y', y x' and y y'
  ties : {m n : ℕ} {x y x' y' : Tree} {ps qs rs ss : List (ℕ × ℕ)} {i j k l : ℕ} → (Parted (node m x y) (node n x' y') → ⊥)
      → Walk Parted x x' ps i → Walk Parted x y' qs j → Walk Parted y x' rs k → Walk Parted y y' ss l
      → Walk Parted (node m x y) (node n x' y') (ps ++ (qs ++ (rs ++ ss))) (1 + (i + (j + (k + l))))

-- no element of the list stands in it twice
abbrev pub Once : {X : Type 0} → List X → Type 0
Once [] = Unit {0}
Once (x ∷ xs) = (Memᴰ x xs → ⊥) × Once xs
