use Rattle.std.proofs.Common.{sym, refl, ap, ◌∙◌}
use Rattle.book.specs.declared.call.Answer.TheVariants as answer
use Rattle.book.specs.Ledgers.{book_over}
use Rattle.book.proofs.Answering.{goes, other_draft, drop_yes}
use Rattle.book.proofs.LedgerLaws.{here_parts, written_length}
use Rattle.register.specs.Registers.{book_of}
use Rattle.register.proofs.Fields.{sound, length_items}
use Rattle.register.proofs.Clearing.{book_cleared}
use Rattle.register.proofs.draft.Draft.drop.Goals as goal

pub returns-then-not-holds-clause-said : goal.returns-then-not-holds-clause-said
returns-then-not-holds-clause-said g c =
    other_draft (book_of c.args.register.now) _ _ c.args.self.mark refl (sym c.holds.ensures ∙ c.if-not-holds.true)

pub returns-clause-said : goal.returns-clause-said
unfolding book_of book_over
returns-clause-said g c =
    let r = c.args.register.now in
    let m = c.args.self.mark in
    let h = sym c.holds.ensures ∙ c.if-not-holds.false in
    goes (book_of r) _ _ _ (drop_yes (book_of r) m h) (ap answer.Removed (sym (written_length _ _ _ _ _ (sound r) (length_items r.table.now) (here_parts r.ledger _ m h).0))) (book_cleared r c.clear.new.self c.clear.ensures.ledger c.clear.ensures.table)
