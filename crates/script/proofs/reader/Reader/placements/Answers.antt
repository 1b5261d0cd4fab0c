use Rattle.std.proofs.Common.{◌+◌, ◌*◌, [], sym, refl, ap, ◌∙◌}
use Rattle.std.proofs.lemmas.Result.{err_from_is_err_and}
use Rattle.jobtext.specs.Forms.{placement}
use Rattle.jobtext.specs.Readings.{placements_of, finished}
use Rattle.script.proofs.Growth.{ran_done, ran_fault, grown_none, rows_at, then_fault, then_ran, onward_ran, onward_stop}
use Rattle.script.proofs.reader.Reader.placements.Goals as goal

pub returns-in_err-count : goal.returns-in_err-count
unfolding placements_of
returns-in_err-count c =
    let p = err_from_is_err_and c.from_residual.result c.from_residual.ensures.1 in
    then_fault _ _ _ _ _ _ _ p.1 p.2 c.in_err-count.ensures.reads

pub returns-in_err-rows : goal.returns-in_err-rows
unfolding placements_of
returns-in_err-rows c =
    let told = c.in_ok-count.ensures in
    let p = err_from_is_err_and c.from_residual-in_err-rows.result c.from_residual-in_err-rows.ensures.1 in
    then_ran _ _ _ _ _ _ _ _ told.reads
    (onward_stop _ _ _ _ _ _ _ _ _ p.1 p.2 (rows_at placement _ _ _ _ _ _ _ _ _ _ _ told.section told.taken refl c.in_err-rows.ensures.ran))

pub returns-in_err-end : goal.returns-in_err-end
unfolding placements_of
returns-in_err-end c =
    let told = c.in_ok-count.ensures in
    let rows = c.in_ok-rows.ensures in
    let p = err_from_is_err_and c.from_residual-in_err-end.result c.from_residual-in_err-end.ensures.1 in
    let entered = rows_at placement _ _ _ _ _ _ _ _ _ _ _ told.section told.taken refl rows.ran in
    let last = rows.taken ∙ ap (λ k. k + c.in_ok-count.count * 12) told.taken in
    then_ran _ _ _ _ _ _ _ _ told.reads (onward_ran _ _ _ _ _ _ _ _ entered
    (ran_fault _ _ _ [] _ _ _ _ p.1 p.2 (grown_none _) (sym (λ i. finished ((rows.section ∙ told.section) i) (last i + 1) c.rows.new.self.input.left) ∙ c.in_err-end.ensures.ends)))

pub returns : goal.returns
unfolding placements_of
returns c =
    let told = c.in_ok-count.ensures in
    let rows = c.in_ok-rows.ensures in
    let entered = rows_at placement _ _ _ _ _ _ _ _ _ _ _ told.section told.taken refl rows.ran in
    let last = rows.taken ∙ ap (λ k. k + c.in_ok-count.count * 12) told.taken in
    then_ran _ _ _ _ _ _ _ _ told.reads (onward_ran _ _ _ _ _ _ _ _ entered
    (ran_done _ _ _ [] _ (grown_none _) (sym (λ i. finished ((rows.section ∙ told.section) i) (last i + 1) c.rows.new.self.input.left) ∙ c.in_ok-end.ensures.ends)))
