use Rattle.std.proofs.Common.{◌≡◌, ◌+◌, ◌-◌, ◌*◌, List}
use Rattle.jobtext.specs.declared.entry.Entry.{Entry}
use Rattle.jobtext.specs.Readings.{before, rows}
use Rattle.script.specs.Runs.{Grown}
use Rattle.script.proofs.reader.Reader.rows.Given as goal

abbrev pub invariant-loop-row : goal.invariant-loop-row
invariant-loop-row g l =
    (es : List Entry)
    × Grown l.initial.self.entries.items l.self.entries.items es
    × (l.self.input.section ≡ l.initial.self.input.section)
    × (l.self.input.taken ≡ l.initial.self.input.taken + l._row * g.R.Row.form.width)
    × (before es (rows g.R.Row.form (l.count - l._row) l.self.input.section l.self.input.taken l.self.input.left)
    ≡ rows g.R.Row.form l.count l.initial.self.input.section l.initial.self.input.taken l.initial.self.input.left)
