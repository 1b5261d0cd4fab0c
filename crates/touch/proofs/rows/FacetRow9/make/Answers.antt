use Rattle.std.proofs.Common.{rules}
use Rattle.touch.proofs.Nine.{made}
use Rattle.touch.proofs.rows.FacetRow9.make.Goals as goal

pub returns : goal.returns
returns c = made _ _ (search rules) c.new.ensures
