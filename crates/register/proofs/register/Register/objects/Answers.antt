use Rattle.std.proofs.Common.{sym, arith}
use Rattle.book.proofs.LedgerLaws.{count_objects, objects_whole}
use Rattle.register.specs.Registers.{book_of}
use Rattle.register.proofs.Fields.{sound}
use Rattle.register.proofs.register.Register.objects.Goals as goal

pub returns-clause-count : goal.returns-clause-count
unfolding book_of
returns-clause-count g c =
    let n = count_objects _ _ _ _ _ (sound c.args.self.now) in
    sym n

pub returns-clause-whole : goal.returns-clause-whole
unfolding book_of
returns-clause-whole g c =
    let n = count_objects _ _ _ _ _ (sound c.args.self.now) in
    λ k h. objects_whole _ _ _ _ _ (sound c.args.self.now) k (omega (arith, n, h))
