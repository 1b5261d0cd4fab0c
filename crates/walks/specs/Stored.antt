-- The walk over the hulls that stand in a table.
use Rattle.std.specs.Prelude.{ℕ, List, map, ℤ, pos, slice_index_or}
use Rattle.hull.specs.declared.direction.Direction.{Direction}
use Rattle.placement.specs.declared.parts.Placement.{Placement}
use Rattle.pairs.specs.Gaps.{Parted}
use Rattle.book.specs.Trees.{Tree, number}

module _ {H : Type 0} (reaches : H → Direction → ℤ) where
  -- the reaches of the hull at a place, and 0 where there is none
  abbrev pub reaches_at : List H → ℕ → Direction → ℤ
  reaches_at hs i = slice_index_or (map reaches hs) i (λ _. pos 0)

  -- some axis of the placement parts the stored hulls of two items
  abbrev pub PartedStored : List H → List H → Placement → Tree → Tree → Type 0
  PartedStored hs ks p t u = Parted (reaches_at hs (number t)) (reaches_at ks (number u)) p
