use Rattle.std.proofs.Common.{◌≡◌, length, take, Ok}
use Rattle.walks.specs.Answers.{WalkedInto}
use Rattle.register.specs.Comparing.{WalkStored}
use Rattle.walks.proofs.State.{State, left_over}
use Rattle.register.proofs.Walks.{walked_of}
use Rattle.register.proofs.walk.walk.Given as goal

abbrev pub invariant-loop-i : goal.invariant-loop-i
invariant-loop-i g l = record {
  room : length l.stack.places.now ≡ 97;
  state : State (walked_of g.H.Hull.reaches l.moved l.standing l.axes.placement) l.initial.pairs (take l.stack.len l.stack.places.now) l.pairs l.count l.tests;
  ends : l.stack.len ≡ 0 → WalkedInto (WalkStored g.H.Hull.reaches l.moved l.standing l.axes.placement) l.initial.pairs l.pairs (Ok (l.count, l.tests));
}

abbrev pub decreases-loop-i : goal.decreases-loop-i
decreases-loop-i g l = left_over (walked_of g.H.Hull.reaches l.moved l.standing l.axes.placement) (take l.stack.len l.stack.places.now)
