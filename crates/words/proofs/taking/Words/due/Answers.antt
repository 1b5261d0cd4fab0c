use Rattle.std.proofs.Common.{refl, ◌∙◌}
use Rattle.std.proofs.lemmas.Fn.{says_at}
use Rattle.std.proofs.lemmas.Result.{err_from_is_err_and}
use Rattle.jobtext.specs.declared.fault.Flaw.TheVariants.{WrongWord}
use Rattle.jobtext.specs.Readings.{found}
use Rattle.jobtext.proofs.Dues.{due_missing, due_told}
use Rattle.words.proofs.taking.Words.due.Goals as goal

pub returns-in_err-word-clause-reads : goal.returns-in_err-word-clause-reads
returns-in_err-word-clause-reads g c =
    let told = c.in_err-word.ensures in
    let p = err_from_is_err_and c.from_residual.result c.from_residual.ensures.1 in
    λ of right. due_missing of _ _ _ _ _ _ told.cases.0 (p.2 ∙ told.cases.1) p.1

pub returns-clause-reads : goal.returns-clause-reads
returns-clause-reads g c =
    let told = c.in_ok-word.ensures in
    λ of right. due_told of _ _ _ _ _ _ _ _ told.cases.0 (right _ _ (says_at g.F.Fn c.worth.ensures refl)) (c.flawed.ensures ∙ (λ i. found WrongWord (told.section i) (told.cases.1 i))) c.ok_or.ensures.value
