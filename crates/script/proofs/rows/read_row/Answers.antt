use Rattle.std.proofs.Common.{◌≡◌, Ok, Err, sym, ap, ◌∙◌, subst}
use Rattle.std.proofs.lemmas.Result.{err_from_is_err_and}
use Rattle.jobtext.specs.Readings.{numbers}
use Rattle.jobtext.proofs.Dues.{reads_fault}
use Rattle.jobtext.proofs.Rows.{row_read, row_stop}
use Rattle.script.proofs.rows.read_row.Goals as goal

pub returns-in_err-numbers-clause-reads : goal.returns-in_err-numbers-clause-reads
returns-in_err-numbers-clause-reads g c =
    let at = c.args.input.now in
    let p = err_from_is_err_and c.from_residual.result c.from_residual.ensures.1 in
    reads_fault _ _ _ _ _ p.1 p.2 (row_stop g.R.Row.form _ _ _ _ (subst (λ n. numbers n at.section at.taken at.left ≡ Err c.in_err-numbers.field-0.0) (sym g.met.R.Row.wide) c.in_err-numbers.ensures.reads))

pub returns-clause-reads : goal.returns-clause-reads
returns-clause-reads g c =
    let at = c.args.input.now in
    row_read g.R.Row.form _ _ _ _ _ (subst (λ n. numbers n at.section at.taken at.left ≡ Ok (c.in_ok-numbers.field-0, c.numbers.new.self.left)) (sym g.met.R.Row.wide) c.in_ok-numbers.ensures.reads)
    ∙ ap (λ q. Ok (q, c.numbers.new.self.left)) (sym c.request.ensures)
