use Rattle.std.proofs.Common.{◌≡◌, min, length, replicate, refl, arith, rules}
use Rattle.book.specs.Limits.{place_limit}
use Rattle.book.specs.Ledgers.{objects, book_over}
use Rattle.book.proofs.LedgerLaws.{sound_opened, same_book}
use Rattle.book.proofs.Growth.{grown_opened}
use Rattle.register.specs.Registers.{book_of}
use Rattle.register.proofs.Fields.{spread}
use Rattle.register.proofs.register.Register.open.Goals as goal

pub invariant_of-result : goal.invariant_of-result
invariant_of-result g c =
    let e : c.min-end.result ≡ min (length c.args.table.now) place_limit = search rules in
    spread g.H.Hull _ c.args.table.now (sound_opened c.args.mark 0 c.min-end.result (length c.args.table.now) (replicate 64 (record { from = 0; to = 0 })) _ _ _ (omega arith) (omega arith) (omega arith) refl) (refl, e) (grown_opened _ _ _ _ _ refl refl)

pub returns-clause-book : goal.returns-clause-book
unfolding book_of book_over objects
returns-clause-book g c =
    let e : c.min-end.result ≡ min (length c.args.table.now) place_limit = search rules in
    same_book (omega arith) refl refl
