use Rattle.std.proofs.Common.{◌∙◌}
use Rattle.std.proofs.lemmas.Slice.Zip.{either_empty_from_Zip}
use Rattle.report.proofs.Endings.{ends}
use Rattle.report.proofs.Turns.{none_left}
use Rattle.report.proofs.report.render.Goals as goal

pub returns : goal.returns
returns g c =
    let none = either_empty_from_Zip c.loop-answer.answer-iterator c.next.new.self _ c.in-None.is c.next.ensures.steps in
    let told = c.in_ok-push_fault.ensures ∙ (rw (none_left _ _ _ g.B.Blamed.blamed _ _ _ none) at c.loop-answer.invariant.told) in
    record { renders = told; ends = ends _ _ _ _ _ _ told }
