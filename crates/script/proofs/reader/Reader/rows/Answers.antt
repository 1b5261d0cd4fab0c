use Rattle.std.proofs.Common.{◌+◌, ◌-◌, [], ◌∷◌, ◌++◌, sym, ap, ◌∙◌, add-mul, arith}
use Rattle.std.proofs.lemmas.Result.{err_from_is_err_and}
use Rattle.jobtext.specs.Readings.{before, rows}
use Rattle.jobtext.proofs.Rows.{asked_at, rows_more, rows_stop, rows_done}
use Rattle.words.specs.Progress.{Progress}
use Rattle.script.proofs.Growth.{grown_more, ran_done, ran_fault}
use Rattle.script.proofs.reader.Reader.rows.Goals as goal

pub loop-row-preserved : goal.loop-row-preserved
loop-row-preserved g c =
    let f = g.R.Row.form in
    let inv = c.loop-row.invariant in
    let i = c.loop-row._row in
    let q = c.in_ok-request.request in
    let mid = c.read_row.new.input in
    let told = c.in_ok-request.ensures in
    let put = c.in_ok-put.ensures in
    let m = c.args.count - (i + 1) in
    let step = rows_more f _ _ _ inv.0 (c.args.count - i) (c.args.count - (i + 1)) _ _ (omega arith) told.reads in (
      inv.0 ++ (asked_at mid.section mid.taken q ∷ []),
      grown_more _ _ _ _ _ inv.1 put.grown,
      ap (λ p. p.section) put.input ∙ told.section ∙ inv.2,
      omega (arith, ap (λ (p : Progress). p.taken) put.input, told.taken, inv.3, add-mul i 1 f.width),
      ap (λ p. before (inv.0 ++ (asked_at mid.section mid.taken q ∷ [])) (rows f m p.section p.taken p.left)) put.input
          ∙ (λ j. before (inv.0 ++ (asked_at (told.section j) (told.taken j) q ∷ [])) (rows f m (told.section j) (told.taken j) mid.left)) ∙ sym step ∙ inv.4,
    )

pub returns-in_err-request-clause-ran : goal.returns-in_err-request-clause-ran
returns-in_err-request-clause-ran g c =
    let inv = c.loop-row.invariant in
    let i = c.loop-row._row in
    let told = c.in_err-request.ensures in
    let p = err_from_is_err_and c.from_residual.result c.from_residual.ensures.1 in
    let cut = sym inv.4 ∙ rows_stop g.R.Row.form _ _ _ inv.0 (c.args.count - i) (c.args.count - (i + 1)) _ (omega arith) told.reads in
    ran_fault _ _ _ _ _ _ _ _ p.1 p.2 inv.1 cut

pub returns-clause-ran : goal.returns-clause-ran
returns-clause-ran g c =
    let inv = c.loop-row.invariant in
    ran_done _ _ _ _ _ inv.1 (sym inv.4 ∙ rows_done g.R.Row.form _ _ _ inv.0 (c.args.count - c.loop-row._row) (omega arith))
