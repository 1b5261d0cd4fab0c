use Rattle.std.proofs.Common.{false}
use Rattle.std.proofs.lemmas.Bool.{false≢true}
use Rattle.book.proofs.LedgerLaws.{sound_cleared}
use Rattle.book.proofs.Growth.{grown_cleared}
use Rattle.register.proofs.Fields.{spread, sound}
use Rattle.register.proofs.register.Register.clear.Goals as goal

pub invariant_of-self : goal.invariant_of-self
invariant_of-self g c = let r = c.args.self.now in spread g.H.Hull _ _ (sound_cleared _ _ _ _ _ (sound r) false (λ e. absurd (false≢true e)) _ _) r.alone (grown_cleared _ _ r.ledger _ _ r.grown false)
