-- What stands inside a tree.
use Rattle.std.proofs.Common.{◌≡◌, ℕ, ◌+◌}
use Rattle.book.specs.declared.item.Facet.{Facet}
use Rattle.book.specs.Trees.{Tree, leaf, node}

-- a tree stands inside itself, and what stands inside a part of a tie inside the tie
pub data Inside (s : Tree) : Tree → Type 0 where
  itself : {t : Tree} → s ≡ t → Inside s t
  first : {n : ℕ} {x y : Tree} → Inside s x → Inside s (node n x y)
  second : {n : ℕ} {x y : Tree} → Inside s y → Inside s (node n x y)

-- the parts of each tie have no facet in common
abbrev pub Separate : Tree → Type 0
Separate (leaf n f) = Unit {0}
Separate (node n x y) = ((m : ℕ) (e f : Facet) → Inside (leaf m e) x → Inside (leaf m f) y → ⊥) × Separate x × Separate y

-- how many items a tree has
abbrev pub items : Tree → ℕ
items (leaf n f) = 1
items (node n t u) = 1 + (items t + items u)
