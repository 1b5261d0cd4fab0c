use Rattle.std.proofs.Common.{◌≡◌, ℕ, Bool, cond, List, Some, None, sym, refl, ap, ◌∙◌}
use Rattle.std.specs.Str.{bytes_eq}
use Rattle.std.proofs.lemmas.Result.{err_from_is_err_and}
use Rattle.jobtext.specs.declared.fault.Flaw.TheVariants.{WrongWord}
use Rattle.jobtext.specs.declared.section.Section.{Section}
use Rattle.jobtext.specs.Readings.{found}
use Rattle.jobtext.specs.Sections.{opens, opening}
use Rattle.jobtext.proofs.Dues.{due_missing, due_told}
use Rattle.words.proofs.taking.Words.open.Goals as goal

pub returns-in_err-word-clause-reads : goal.returns-in_err-word-clause-reads
returns-in_err-word-clause-reads c =
    let told = c.in_err-word.ensures in
    let p = err_from_is_err_and c.from_residual.result c.from_residual.ensures.1 in
    due_missing (opens c.args.section) _ _ _ _ _ _ (sym (ap (λ p. p.left) c.self.view_is) ∙ told.cases.0) (p.2 ∙ told.cases.1) p.1

-- the answer of the test is that of the definition
opened : {t : Bool} (w name : List ℕ) (s : Section) → t ≡ bytes_eq w name → name ≡ opening s → cond t (Some tt) None ≡ opens s w
unfolding opens
opened w name s told same = ap (λ b. cond b (Some tt) None) (told ∙ ap (bytes_eq w) same)

pub returns-then-is_text-clause-reads : goal.returns-then-is_text-clause-reads
returns-then-is_text-clause-reads c =
    let told = c.in_ok-word.ensures in
    due_told (opens c.args.section) _ _ _ c.in_ok-word.word.now _ (Some tt) _ _ (sym (ap (λ p. p.left) c.self.view_is) ∙ told.cases.0) (opened _ _ _ c.if-is_text.ensures.value c.opening_word.ensures) refl refl

pub returns-else-is_text-clause-reads : goal.returns-else-is_text-clause-reads
returns-else-is_text-clause-reads c =
    let told = c.in_ok-word.ensures in
    due_told (opens c.args.section) _ _ _ c.in_ok-word.word.now _ None _ _ (sym (ap (λ p. p.left) c.self.view_is) ∙ told.cases.0) (opened _ _ _ c.if-is_text.ensures.value c.opening_word.ensures) (c.flawed.ensures ∙ (λ i. found WrongWord (told.section i) (told.cases.1 i))) refl
