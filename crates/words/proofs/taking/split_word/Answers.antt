use Rattle.std.proofs.Common.{◌≡◌, rules, tests, sym, ◌∙◌, arith}
use Rattle.std.specs.List.{prefix_len}
use Rattle.std.proofs.lemmas.Iterator.{YieldsList-from_slice}
use Rattle.std.proofs.lemmas.Iterator.Consumers.{count_from_yields_List}
use Rattle.std.proofs.lemmas.Iterator.Search.{YieldsList-from_take_while}
use Rattle.std.proofs.lemmas.List.Folds.{length-prefix_len}
use Rattle.jobtext.specs.Words.{letter, separator}
use Rattle.jobtext.proofs.Cuts.{first_word, no_word}
use Rattle.words.proofs.taking.split_word.Goals as goal

pub returns : goal.returns
returns c =
    let bs = c.args.bytes.now in
    let front = c.split_at.result.1.now in
    let seps : c.count-separators.result ≡ prefix_len separator bs =
    count_from_yields_List _ _ c.count-separators.ensures.ran (YieldsList-from_take_while _ separator (YieldsList-from_slice bs cc) c.take_while.ensures.closure c.take_while.ensures.done (λ x b q k. search (rules, tests))) ∙ length-prefix_len separator bs in
    let letters : c.count-letters.result ≡ prefix_len letter front =
    count_from_yields_List _ _ c.count-letters.ensures.ran (YieldsList-from_take_while _ letter (YieldsList-from_slice front cc) c.take_while-2.ensures.closure c.take_while-2.ensures.done (λ x b q k. search (rules, tests))) ∙ length-prefix_len letter front in
    let after = c.split_at.ensures.back in
    let parts = c.split_at-2.ensures in
    record {
      words = first_word bs front _ _ seps after letters c.split_at-2.result.0.now c.split_at-2.result.1.now parts.front parts.back;
      none = λ e. no_word bs front _ _ seps after letters (sym parts.front_len ∙ e);
      lengths = omega (arith, parts.front_len, parts.back_len, c.split_at.ensures.back_len);
    }
