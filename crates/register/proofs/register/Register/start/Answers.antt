use Rattle.std.proofs.Common.{is_some, refl, ap, arith}
use Rattle.book.specs.Ledgers.{book_over}
use Rattle.book.specs.declared.refusal.Refusal.TheVariants.{DraftOpen, ObjectsFull}
use Rattle.book.proofs.Answering.{goes, stays, start_yes, start_1, start_2}
use Rattle.book.proofs.LedgerLaws.{page_some, page_none, count_objects, book_started}
use Rattle.register.specs.Registers.{book_of}
use Rattle.register.proofs.Fields.{sound}
use Rattle.register.proofs.register.Register.start.Goals as goal

pub returns-then-self-clause-said : goal.returns-then-self-clause-said
unfolding book_of
returns-then-self-clause-said g c =
    let b = book_of c.args.self.now in
    stays b _ DraftOpen refl (start_1 b (ap is_some (page_some _ _ c.if-self.true)))

pub returns-then-self-ge-OBJECTS-clause-said : goal.returns-then-self-ge-OBJECTS-clause-said
unfolding book_of
returns-then-self-ge-OBJECTS-clause-said g c =
    let r = c.args.self.now in
    let b = book_of r in
    stays b _ ObjectsFull refl (start_2 b (ap is_some (page_none _ _ c.if-self.false)) (omega (arith, count_objects _ _ _ _ _ (sound r), c.if-self-ge-OBJECTS.true)))

pub returns-clause-said : goal.returns-clause-said
unfolding book_of book_over
returns-clause-said g c =
    let r = c.args.self.now in
    let b = book_of r in
    goes b _ _ _ (start_yes b (ap is_some (page_none r.ledger _ c.if-self.false)) (omega (arith, count_objects _ _ _ _ _ (sound r), c.if-self-ge-OBJECTS.false))) refl (book_started _ _ _ _ _ (sound r) c.if-self.false)

pub returns-clause-marked : goal.returns-clause-marked
unfolding book_of book_over
returns-clause-marked g c =
    refl
