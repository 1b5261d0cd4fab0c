use Rattle.std.proofs.Common.{sym, refl, ap, ◌∙◌}
use Rattle.book.specs.declared.call.Answer.TheVariants as answer
use Rattle.book.specs.Trees.{untied}
use Rattle.book.specs.Books.{written}
use Rattle.book.specs.Ledgers.{book_over}
use Rattle.book.proofs.Answering.{goes, spent, other_draft, close_yes, close_8}
use Rattle.book.proofs.LedgerLaws.{here_parts, page_some, count_objects, sound_filed, book_filed, objects_whole}
use Rattle.book.proofs.Growth.{grown_filed}
use Rattle.register.specs.Registers.{book_of}
use Rattle.register.proofs.Fields.{spread, sound, length_items}
use Rattle.register.proofs.Clearing.{book_cleared}
use Rattle.register.proofs.draft.Draft.close.Goals as goal

pub returns-then-not-holds-clause-said : goal.returns-then-not-holds-clause-said
unfolding book_of
returns-then-not-holds-clause-said g c =
    let r = c.args.register.now in
    other_draft (book_of r) _ _ c.args.self.mark refl (sym c.holds.ensures ∙ c.if-not-holds.true)

pub returns-then-not-holds-clause-whole : goal.returns-then-not-holds-clause-whole
unfolding book_of
returns-then-not-holds-clause-whole g c =
    let r = c.args.register.now in
    objects_whole _ _ _ _ _ (sound r)

pub returns-then-register-ne1-clause-said : goal.returns-then-register-ne1-clause-said
unfolding book_of book_over
returns-then-register-ne1-clause-said g c =
    let r = c.args.register.now in
    let m = c.args.self.mark in
    let h = sym c.holds.ensures ∙ c.if-not-holds.false in
    let after = c.clear.new.self in
    spent (book_of r) _ _ (close_8 (book_of r) m h (λ u. c.if-register-ne1.true (r.paged.2 ∙ (ap (λ q. untied (written q)) (sym (page_some r.ledger _ (here_parts r.ledger _ m h).0)) ∙ u)))) (book_cleared r after c.clear.ensures.ledger c.clear.ensures.table)

pub returns-then-register-ne1-clause-whole : goal.returns-then-register-ne1-clause-whole
unfolding book_of book_over
returns-then-register-ne1-clause-whole g c =
    let after = c.clear.new.self in
    objects_whole _ _ _ _ _ (sound after)

pub bounds-register-number : goal.bounds-register-number
unfolding book_of
bounds-register-number g c = let r = c.args.register.now in r.counted.2 (here_parts r.ledger _ c.args.self.mark (sym c.holds.ensures ∙ c.if-not-holds.false)).0

pub invariant_of-register : goal.invariant_of-register
unfolding book_of
invariant_of-register g c =
    let r = c.args.register.now in
    let h = sym c.holds.ensures ∙ c.if-not-holds.false in
    let o = (here_parts r.ledger _ c.args.self.mark h).0 in
    spread g.H.Hull _ _ (sound_filed _ _ _ _ _ (sound r) (length_items r.table.now) o c.if-register-ne1.false) r.alone (grown_filed _ _ r.ledger _ _ r.grown r.counted.1 (r.counted.2 o))

pub returns-clause-said : goal.returns-clause-said
unfolding book_of book_over
returns-clause-said g c =
    let r = c.args.register.now in
    let m = c.args.self.mark in
    let h = sym c.holds.ensures ∙ c.if-not-holds.false in
    let o = (here_parts r.ledger _ m h).0 in
    let n = length_items r.table.now in
    goes (book_of r) _ _ _ (close_yes (book_of r) m h (ap (λ q. untied (written q)) (page_some r.ledger _ o) ∙ (sym r.paged.2 ∙ c.if-register-ne1.false)))
    (ap answer.Filed (sym (count_objects _ _ _ _ _ (sound r)))) (book_filed _ _ _ _ _ (sound r) n o)

pub returns-clause-whole : goal.returns-clause-whole
unfolding book_of book_over
returns-clause-whole g c =
    let r = c.args.register.now in
    let m = c.args.self.mark in
    let h = sym c.holds.ensures ∙ c.if-not-holds.false in
    let o = (here_parts r.ledger _ m h).0 in
    let n = length_items r.table.now in
    objects_whole _ _ _ _ _ (sound_filed _ _ _ _ _ (sound r) n o c.if-register-ne1.false)
