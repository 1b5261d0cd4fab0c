use Rattle.std.proofs.Common.{ap}
use Rattle.script.proofs.Telling.{tells_at, tells_stopped, tells_whole, tells_fault}
use Rattle.script.proofs.script.read_words.Goals as goal
use Rattle.script.proofs.script.read_words.Goals.{in-Ok+in-Ok-body, in-Ok+in-Err-body+in_ok-fault-in-Err-body, in-Err}

pub returns : goal.returns
returns c =
    let ws = c.args.input.left in
    elim c.match-kind.branch [
      | in-Ok+in-Ok-body w ↦ tells_at _ _ _ _ _ w.kind-is (ap (λ r. r.entries) w.reader-is) (tells_whole ws _ _ w.in-Ok.ensures _ c.new.ensures.items _ _ w.in-Ok-body.ensures)
      | in-Ok+in-Err-body+in_ok-fault-in-Err-body w ↦ tells_at _ _ _ _ _ w.kind-is (ap (λ r. r.entries) w.reader-is) (tells_fault ws _ _ w.in-Ok.ensures _ c.new.ensures.items _ _ _ _ w.in_ok-fault-in-Err-body.ensures w.in-Err-body.ensures)
      | in-Err w ↦ tells_at _ _ _ _ _ w.kind-is (ap (λ r. r.entries) w.reader-is) (tells_stopped ws _ _ c.new.ensures.items w.in-Err.ensures)
    ]
