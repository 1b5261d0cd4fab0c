use Rattle.std.proofs.Common.{◌≡◌, ◌+◌, ◌-◌, length, take}
use Rattle.jobtext.specs.Readings.{numbers}
use Rattle.jobtext.proofs.Dues.{fronted}
use Rattle.words.proofs.taking.Words.numbers.Given as goal

abbrev pub invariant-loop-place : goal.invariant-loop-place
invariant-loop-place g l =
    (length l.place-items ≡ g.row.N)
    × (l.self.section ≡ l.initial.self.section)
    × (l.self.taken ≡ l.initial.self.taken + l.place-index)
    × (fronted (take l.place-index l.place-items) (numbers (g.row.N - l.place-index) l.self.section l.self.taken l.self.left)
    ≡ numbers g.row.N l.initial.self.section l.initial.self.taken l.initial.self.left)
