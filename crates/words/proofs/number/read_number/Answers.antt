use Rattle.std.proofs.Common.{◌≡◌, [], ◌∷◌, pos, ◌-ℤ◌, neg_ℤ, true, false, Some, None, ap, ◌∙◌, w64, to_z, of_z, rules}
use Rattle.std.proofs.lemmas.Slice.Eq.{strip_prefix_is}
use Rattle.std.proofs.lemmas.Bool.Decides.{Decides-eqb}
use Rattle.jobtext.proofs.Numerals.{minus_yes, minus_no, number_some, number_none}
use Rattle.words.proofs.number.read_number.Goals as goal

pub returns-in_err-read_count-in-Some-clause-value : goal.returns-in_err-read_count-in-Some-clause-value
returns-in_err-read_count-in-Some-clause-value c =
    let parts = minus_yes c.args.word.now c.in-Some.digits.now (strip_prefix_is Decides-eqb c.args.word.now (45 ∷ []) (Some c.in-Some.digits) c.in-Some.ensures.cases) in
    c.from_residual.ensures ∙ number_none _ _ parts.1 c.in_err-read_count-in-Some.ensures.value

pub returns-in_err-read_count-in-None-clause-value : goal.returns-in_err-read_count-in-None-clause-value
returns-in_err-read_count-in-None-clause-value c =
    let parts = minus_no c.args.word.now (strip_prefix_is Decides-eqb c.args.word.now (45 ∷ []) None c.in-None.ensures.cases) in
    c.from_residual-in_err-read_count-in-None.ensures ∙ number_none _ _ parts.1 c.in_err-read_count-in-None.ensures.value

pub returns-in_ok-read_count-in-Some-clause-value : goal.returns-in_ok-read_count-in-Some-clause-value
returns-in_ok-read_count-in-Some-clause-value c =
    let n = c.in_ok-read_count-in-Some.field-0 in
    let parts = minus_yes c.args.word.now c.in-Some.digits.now (strip_prefix_is Decides-eqb c.args.word.now (45 ∷ []) (Some c.in-Some.digits) c.in-Some.ensures.cases) in
    let same : to_z w64 (of_z w64 (pos 0 -ℤ to_z w64 c.in_ok-read_count-in-Some.field-0)) ≡ neg_ℤ (pos c.in_ok-read_count-in-Some.field-0) = search rules in
    ap Some same ∙ number_some _ _ true n parts.0 parts.1 c.in_ok-read_count-in-Some.ensures.value

pub returns-in_ok-read_count-in-None-clause-value : goal.returns-in_ok-read_count-in-None-clause-value
returns-in_ok-read_count-in-None-clause-value c =
    let n = c.in_ok-read_count-in-None.field-0 in
    let parts = minus_no c.args.word.now (strip_prefix_is Decides-eqb c.args.word.now (45 ∷ []) None c.in-None.ensures.cases) in
    let same : to_z w64 c.in_ok-read_count-in-None.field-0 ≡ pos c.in_ok-read_count-in-None.field-0 = search rules in
    ap Some same ∙ number_some _ _ false n parts.0 parts.1 c.in_ok-read_count-in-None.ensures.value
