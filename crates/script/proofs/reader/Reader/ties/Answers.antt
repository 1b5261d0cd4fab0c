use Rattle.std.proofs.Common.{◌+◌, ◌*◌, Ok, sym, refl, ap, ◌∙◌}
use Rattle.std.proofs.lemmas.Result.{err_from_is_err_and}
use Rattle.jobtext.specs.Forms.{tie}
use Rattle.jobtext.specs.Readings.{ties_of}
use Rattle.script.proofs.Growth.{grown_none, grown_at, rows_at, asked_ran, then_fault, then_ran, onward_ran, onward_stop}
use Rattle.script.proofs.reader.Reader.ties.Goals as goal

pub returns-in_err-count : goal.returns-in_err-count
unfolding ties_of
returns-in_err-count c =
    let p = err_from_is_err_and c.from_residual.result c.from_residual.ensures.1 in
    then_fault _ _ _ _ _ _ _ p.1 p.2 c.in_err-count.ensures.reads

pub returns-in_err-rows : goal.returns-in_err-rows
unfolding ties_of
returns-in_err-rows c =
    let told = c.in_ok-count.ensures in
    let p = err_from_is_err_and c.from_residual-in_err-rows.result c.from_residual-in_err-rows.ensures.1 in
    then_ran _ _ _ _ _ _ _ _ told.reads
    (onward_stop _ _ _ _ _ _ _ _ _ p.1 p.2 (rows_at tie _ _ _ _ _ _ _ _ _ _ _ told.section told.taken refl c.in_err-rows.ensures.ran))

pub returns : goal.returns
unfolding ties_of
returns c =
    let told = c.in_ok-count.ensures in
    let rows = c.in_ok-rows.ensures in
    let entered = rows_at tie _ _ _ _ _ _ _ _ _ _ _ told.section told.taken refl rows.ran in
    let closed = grown_at _ _ _ _ _ _ _ (rows.section ∙ told.section) (rows.taken ∙ ap (λ k. k + c.in_ok-count.count * 2) told.taken) c.in_ok-put.ensures.grown in
    then_ran _ _ _ _ _ _ _ _ told.reads (onward_ran _ _ _ _ _ _ _ _ entered (asked_ran _ _ _ _ _ _ _ _ _ closed (record { outcome = (grown_none _, ap (λ p. Ok p.left) (sym c.in_ok-put.ensures.input)) })))
