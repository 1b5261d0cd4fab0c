use Rattle.std.proofs.Common.{rules}
use Rattle.jobtext.proofs.Told.{counted}
use Rattle.words.proofs.taking.Words.count_word.Goals as goal

pub returns-clause-cases : goal.returns-clause-cases
returns-clause-cases c = counted _ _ _ _ _ (search rules)
