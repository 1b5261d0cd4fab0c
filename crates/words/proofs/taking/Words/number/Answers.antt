use Rattle.std.proofs.Common.{rules}
use Rattle.jobtext.proofs.Told.{numbered}
use Rattle.words.proofs.taking.Words.number.Goals as goal

pub returns-clause-cases : goal.returns-clause-cases
returns-clause-cases c = numbered _ _ _ _ _ (search rules)
