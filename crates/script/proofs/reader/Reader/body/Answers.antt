use Rattle.std.proofs.lemmas.Result.{err_from_is_err_and}
use Rattle.jobtext.specs.Readings.{body_of}
use Rattle.script.proofs.Growth.{onward_ran, onward_stop}
use Rattle.script.proofs.reader.Reader.body.Goals as goal

pub returns-in_err-facets : goal.returns-in_err-facets
unfolding body_of
returns-in_err-facets c =
    let p = err_from_is_err_and c.from_residual.result c.from_residual.ensures.1 in
    onward_stop _ _ _ _ _ _ _ _ _ p.1 p.2 c.in_err-facets.ensures

pub returns-in_err-ties : goal.returns-in_err-ties
unfolding body_of
returns-in_err-ties c =
    let p = err_from_is_err_and c.from_residual-in_err-ties.result c.from_residual-in_err-ties.ensures.1 in
    onward_ran _ _ _ _ _ _ _ _ c.in_ok-facets.ensures (onward_stop _ _ _ _ _ _ _ _ _ p.1 p.2 c.in_err-ties.ensures)

pub returns-in_err-facets-2 : goal.returns-in_err-facets-2
unfolding body_of
returns-in_err-facets-2 c =
    let p = err_from_is_err_and c.from_residual-in_err-facets-2.result c.from_residual-in_err-facets-2.ensures.1 in
    onward_ran _ _ _ _ _ _ _ _ c.in_ok-facets.ensures (onward_ran _ _ _ _ _ _ _ _ c.in_ok-ties.ensures (onward_stop _ _ _ _ _ _ _ _ _ p.1 p.2 c.in_err-facets-2.ensures))

pub returns-in_err-ties-2 : goal.returns-in_err-ties-2
unfolding body_of
returns-in_err-ties-2 c =
    let p = err_from_is_err_and c.from_residual-in_err-ties-2.result c.from_residual-in_err-ties-2.ensures.1 in
    onward_ran _ _ _ _ _ _ _ _ c.in_ok-facets.ensures (onward_ran _ _ _ _ _ _ _ _ c.in_ok-ties.ensures (onward_ran _ _ _ _ _ _ _ _ c.in_ok-facets-2.ensures (onward_stop _ _ _ _ _ _ _ _ _ p.1 p.2 c.in_err-ties-2.ensures)))

pub returns : goal.returns
unfolding body_of
returns c =
    onward_ran _ _ _ _ _ _ _ _ c.in_ok-facets.ensures (onward_ran _ _ _ _ _ _ _ _ c.in_ok-ties.ensures (onward_ran _ _ _ _ _ _ _ _ c.in_ok-facets-2.ensures (onward_ran _ _ _ _ _ _ _ _ c.in_ok-ties-2.ensures c.placements.ensures)))
