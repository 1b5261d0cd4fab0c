use Rattle.std.proofs.Common.{refl}
use Rattle.book.specs.Ledgers.{slice}
use Rattle.register.proofs.register.Register.page.Goals as goal

pub returns : goal.returns
unfolding slice
returns g c = refl
