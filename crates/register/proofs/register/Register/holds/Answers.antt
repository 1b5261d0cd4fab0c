use Rattle.std.proofs.Common.{◌&&◌, eqb, sym, ap, ◌∙◌}
use Rattle.book.proofs.LedgerLaws.{here_is}
use Rattle.register.specs.Tables.{items_of}
use Rattle.register.specs.Registers.{book_of}
use Rattle.register.proofs.register.Register.holds.Goals as goal

pub returns-then-self : goal.returns-then-self
unfolding book_of
returns-then-self g c =
    let r = c.args.self.now in
    let m = c.args.draft.now.mark in
    sym (here_is r.ledger (items_of r.table.now) m ∙ ap (λ v. v && eqb m r.ledger.mark) c.if-self.true)

pub returns-else-self : goal.returns-else-self
unfolding book_of
returns-else-self g c =
    let r = c.args.self.now in
    let m = c.args.draft.now.mark in
    c.if-self.false ∙ sym (here_is r.ledger (items_of r.table.now) m ∙ ap (λ v. v && eqb m r.ledger.mark) c.if-self.false)
