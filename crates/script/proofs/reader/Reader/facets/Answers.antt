use Rattle.std.proofs.Common.{ap, ◌∙◌}
use Rattle.std.proofs.lemmas.Result.{err_from_is_err_and}
use Rattle.jobtext.specs.Forms.{facet}
use Rattle.jobtext.specs.Readings.{facets_of}
use Rattle.script.proofs.Growth.{grown_at, rows_at, asked_ran, then_fault, then_ran}
use Rattle.script.proofs.reader.Reader.facets.Goals as goal

pub returns-in_err-count : goal.returns-in_err-count
unfolding facets_of
returns-in_err-count c =
    let p = err_from_is_err_and c.from_residual.result c.from_residual.ensures.1 in
    then_fault _ _ _ _ _ _ _ p.1 p.2 c.in_err-count.ensures.reads

pub returns : goal.returns
unfolding facets_of
returns c =
    let told = c.in_ok-count.ensures in
    let put = c.in_ok-put.ensures in
    let started = grown_at _ _ _ _ _ _ _ told.section told.taken put.grown in
    let entered = rows_at facet _ _ _ _ _ _ _ _ _ _ _ (ap (λ p. p.section) put.input ∙ told.section) (ap (λ p. p.taken) put.input ∙ told.taken) (ap (λ p. p.left) put.input) c.rows.ensures.ran in
    then_ran _ _ _ _ _ _ _ _ told.reads (asked_ran _ _ _ _ _ _ _ _ _ started entered)
