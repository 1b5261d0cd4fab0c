use Rattle.std.proofs.Common.{ℕ, false, set, sym, refl, ap, subst, ◌∙◌, rules}
use Rattle.std.proofs.lemmas.Bool.{ltb-true}
use Rattle.book.specs.declared.call.Answer.TheVariants as answer
use Rattle.book.specs.declared.item.Item.TheVariants as item
use Rattle.book.specs.Facets.{facet_of}
use Rattle.book.specs.Books.{added}
use Rattle.book.proofs.Answering.{goes, other_draft, facet_4, facet_5, facet_yes}
use Rattle.book.proofs.LedgerLaws.{here_parts, few_loose, written_length}
use Rattle.register.specs.Tables.{Wrote}
use Rattle.register.specs.Registers.{book_of}
use Rattle.register.proofs.Fields.{sound, stored_place, length_items}
use Rattle.register.proofs.Entering.{ghosts_facet, wrote_set, book_facet}
use Rattle.register.proofs.draft.Draft.facet.Goals as goal

pub returns-then-not-holds-clause-said : goal.returns-then-not-holds-clause-said
returns-then-not-holds-clause-said g c =
    other_draft (book_of c.args.register.now) _ _ c.args.self.mark refl (sym c.holds.ensures ∙ c.if-not-holds.true)

pub returns-in_default-clause-said : goal.returns-in_default-clause-said
returns-in_default-clause-said g c =
    facet_4 (book_of c.args.register.now) c.args.self.mark (sym c.holds.ensures ∙ c.if-not-holds.false) c.args.numbers c.in_default.ensures

pub returns-then-not-has_room-clause-said : goal.returns-then-not-has_room-clause-said
returns-then-not-has_room-clause-said g c =
    facet_5 (book_of c.args.register.now) c.args.self.mark (sym c.holds.ensures ∙ c.if-not-holds.false) c.args.numbers c.in-Some.ensures.0 (sym c.has_room.ensures.room ∙ c.if-not-has_room.true)

pub overflow_add-register-2 : goal.overflow_add-register-2
overflow_add-register-2 g c =
    let r = c.args.register.now in
    let few = few_loose _ _ _ _ _ (sound r) (length_items r.table.now) in
    search rules

pub invariant_of-register : goal.invariant_of-register
unfolding book_of
invariant_of-register g c =
    let r = c.args.register.now in
    ghosts_facet r (here_parts r.ledger _ c.args.self.mark (sym c.holds.ensures ∙ c.if-not-holds.false)).0 (ltb-true _ _ (sym c.has_room.ensures.below ∙ c.if-not-has_room.false)) c.in-Some.facet _ refl refl refl c.facet_hull.ensures

pub returns-clause-said : goal.returns-clause-said
unfolding book_of
returns-clause-said g c =
    let r = c.args.register.now in
    let m = c.args.self.mark in
    let is = c.in-Some.ensures.1 in
    let h = sym c.holds.ensures ∙ c.if-not-holds.false in
    let o = (here_parts r.ledger _ m h).0 in
    let lt = ltb-true _ _ (sym c.has_room.ensures.below ∙ c.if-not-has_room.false) in
    goes (book_of r) _ _ _ (facet_yes (book_of r) m h c.args.numbers c.in-Some.ensures.0 (sym c.has_room.ensures.room ∙ c.if-not-has_room.false))
    (ap answer.Entered (sym (written_length _ _ _ _ _ (sound r) (length_items r.table.now) o)))
    (book_facet r o lt c.in-Some.facet _ refl ∙ ap (λ q. added (book_of r) (item.Facet q)) is)

pub returns-clause-table : goal.returns-clause-table
unfolding book_of
returns-clause-table g c =
    let r = c.args.register.now in
    let is = c.in-Some.ensures.1 in
    let placed : _ = record { item = item.Facet c.in-Some.facet; height = 0; tied = false; hull = c.facet_hull.result } in
    subst (λ (k : ℕ). Wrote r.table.now (set r.table.now r.ledger.used placed) k (item.Facet (facet_of c.args.numbers))) (sym (stored_place r)) (wrote_set r.table.now r.ledger.used placed _ (ap item.Facet is) _ refl)

pub returns-clause-place : goal.returns-clause-place
returns-clause-place g c = cc (c.in-Some.ensures.1, c.facet_hull.ensures, stored_place c.args.register.now)
