use Rattle.std.proofs.Common.{rules, tests, sym, refl, ◌∙◌}
use Rattle.std.specs.Str.{bytes_eq}
use Rattle.std.proofs.lemmas.Iterator.Search.{find_from_yields_List}
use Rattle.std.proofs.lemmas.Iterator.{YieldsList-from_slice}
use Rattle.std.proofs.lemmas.Iterator.Consumers.{YieldsList-from_copied}
use Rattle.std.proofs.lemmas.Iterator.Adapters.{option_map_id}
use Rattle.jobtext.specs.Sections.{word_of_kind, kind_of}
use Rattle.jobtext.proofs.kind.Kind.from_word.Goals as goal

pub returns : goal.returns
unfolding kind_of
returns c =
    sym (option_map_id _) ∙ find_from_yields_List (λ k. bytes_eq c.args.word.now (word_of_kind k)) _ _ c.find.result c.find.ensures.ran (YieldsList-from_copied (YieldsList-from_slice _ refl)) (λ x b q k. search (rules, tests)) ∙ search (rules, tests)
