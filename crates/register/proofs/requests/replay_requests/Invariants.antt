use Rattle.std.proofs.Common.{◌≡◌, map, take, drop}
use Rattle.walks.proofs.Runs.{Running}
use Rattle.register.specs.Registers.{book_of}
use Rattle.register.proofs.requests.replay_requests.Given as goal

abbrev pub invariant-loop-i : goal.invariant-loop-i
invariant-loop-i g l = record {
  running : Running g.H.Hull.begun g.H.Hull.grown g.H.Hull.reaches g.H.Hull.faced g.H.Hull.unrounded l.places l.initial.lists (book_of l.initial.register) (take l.i (map g.R.Asked.asked l.requests)) (take l.i l.answers) (book_of l.register) l.lists l.from;
  kept : drop l.i l.answers ≡ drop l.i l.initial.answers;
}
