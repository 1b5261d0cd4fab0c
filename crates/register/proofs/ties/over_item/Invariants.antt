use Rattle.std.proofs.Common.{◌≡◌, length, take, fold}
use Rattle.book.specs.Trees.{tree, corners}
use Rattle.book.proofs.Pending.{Growing, weight}
use Rattle.register.specs.Tables.{items_of}
use Rattle.register.proofs.ties.over_item.Given as goal

abbrev pub invariant-loop-i : goal.invariant-loop-i
invariant-loop-i g l = record {
  room : length l.stack.places.now ≡ 33;
  growing : Growing g.H.Hull.grown (items_of l.page) (fold g.H.Hull.grown l.initial.grown (corners (tree (items_of l.page) l.y))) (take l.stack.len l.stack.places.now) l.grown;
}

abbrev pub decreases-loop-i : goal.decreases-loop-i
decreases-loop-i g l = weight (items_of l.page) (take l.stack.len l.stack.places.now)
