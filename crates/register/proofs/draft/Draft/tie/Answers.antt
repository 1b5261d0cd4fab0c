use Rattle.std.proofs.Common.{◌≡◌, ℕ, false, List, ℤ, nat_abs, sym, refl, ap, ◌∙◌, subst, subst₂, arith, w64, SFits, to_z, of_z, rules}
use Rattle.std.proofs.lemmas.Int.{to_z-of_z}
use Rattle.std.proofs.lemmas.Bool.{ltb-true}
use Rattle.book.specs.declared.call.Answer.TheVariants as answer
use Rattle.book.specs.declared.item.Item.TheVariants as item
use Rattle.book.specs.Books.{joins, added}
use Rattle.book.proofs.Answering.{goes, other_draft, tie_6}
use Rattle.book.proofs.LedgerLaws.{here_parts, page_some, written_length}
use Rattle.book.specs.declared.item.Item.{Item}
use Rattle.register.specs.Tables.{items_of, FreeParts, Wrote}
use Rattle.register.specs.Registers.{book_of}
use Rattle.register.proofs.Fields.{sound, stored_place, length_items}
use Rattle.register.proofs.Entering.{page_items, page_heights, page_tieds, page_sane, page_count, page_small, i_in, k_in, i_small, k_small, too_high, table_full, accepted, may_join, hull_grown, wrote_joined, tie_stands, book_after}
use Rattle.register.proofs.draft.Draft.tie.Goals as goal

pub returns-then-not-holds-clause-said : goal.returns-then-not-holds-clause-said
returns-then-not-holds-clause-said g c =
    other_draft (book_of c.args.register.now) _ _ c.args.self.mark refl (sym c.holds.ensures ∙ c.if-not-holds.true)

pub free_parts-requires : goal.free_parts-requires
free_parts-requires g c = page_tieds c.args.register.now _ c.page-page.ensures

-- what the two numbers are, whatever casts they went through
parts : (p : List Item) (x y : ℤ) (i k : ℕ) → SFits w64 x → SFits w64 y → FreeParts p (to_z w64 (of_z w64 x)) (to_z w64 (of_z w64 y)) i k → FreeParts p x y i k
parts p x y i k fx fy f = record { x_is = sym (to_z-of_z w64 x fx) ∙ f.x_is; y_is = sym (to_z-of_z w64 y fy) ∙ f.y_is; free = f.free }

pub returns-in_default-clause-said : goal.returns-in_default-clause-said
unfolding book_of
returns-in_default-clause-said g c =
    let r = c.args.register.now in
    let h = sym c.holds.ensures ∙ c.if-not-holds.false in
    let fx = c.ranges.x in
    let fy = c.ranges.y in
    let no : joins (items_of c.page-page.result.now) c.args.x c.args.y ≡ false = simp to_z-of_z at c.in_default.ensures in
    tie_6 (book_of r) c.args.self.mark h _ (page_some r.ledger _ (here_parts r.ledger _ c.args.self.mark h).0) c.args.x c.args.y (subst (λ q. joins q c.args.x c.args.y ≡ false) (page_items r _ c.page-page.ensures) no)

pub tie_height-height-requires : goal.tie_height-height-requires
tie_height-height-requires g c =
    let r = c.args.register.now in
    let e = c.page-page.ensures in
    let f = c.in-Some.ensures in
    record { within = (i_in r _ e _ _ _ _ f, k_in r _ e _ _ _ _ f); known = (page_heights r _ e, page_sane r _ e) }

pub returns-then-height-gt-HEIGHT-clause-said : goal.returns-then-height-gt-HEIGHT-clause-said
returns-then-height-gt-HEIGHT-clause-said g c =
    let f = parts _ _ _ _ _ c.ranges.x c.ranges.y c.in-Some.ensures in
    too_high c.args.register.now _ c.page-page.ensures _ _ _ _ f _ c.tie_height-height.ensures c.args.self.mark (sym c.holds.ensures ∙ c.if-not-holds.false) c.if-height-gt-HEIGHT.true

pub returns-then-not-has_room-clause-said : goal.returns-then-not-has_room-clause-said
returns-then-not-has_room-clause-said g c =
    let f = parts _ _ _ _ _ c.ranges.x c.ranges.y c.in-Some.ensures in
    table_full c.args.register.now _ c.page-page.ensures _ _ _ _ f _ c.tie_height-height.ensures c.args.self.mark (sym c.holds.ensures ∙ c.if-not-holds.false) c.if-height-gt-HEIGHT.false (sym c.has_room.ensures.room ∙ c.if-not-has_room.true)

pub bounds-page-left : goal.bounds-page-left
bounds-page-left g c = i_in c.args.register.now _ c.page-page.ensures _ _ _ _ c.in-Some.ensures

pub offset_bounds-page-left : goal.offset_bounds-page-left
offset_bounds-page-left g c = let h = i_in c.args.register.now _ c.page-page.ensures _ _ _ _ c.in-Some.ensures in omega arith

pub overflow_cast-tie : goal.overflow_cast-tie
overflow_cast-tie g c = let n = i_small c.args.register.now _ c.page-page.ensures _ _ _ _ c.in-Some.ensures in search rules

pub overflow_cast-tie-2 : goal.overflow_cast-tie-2
overflow_cast-tie-2 g c = let n = k_small c.args.register.now _ c.page-page.ensures _ _ _ _ c.in-Some.ensures in search rules

pub overflow_cast-right : goal.overflow_cast-right
overflow_cast-right g c = let n = k_small c.args.register.now _ c.page-page.ensures _ _ _ _ c.in-Some.ensures in search rules

pub over_item-requires : goal.over_item-requires
over_item-requires g c =
    let r = c.args.register.now in
    (page_sane r _ c.page-page.ensures, k_in r _ c.page-page.ensures _ _ _ _ c.in-Some.ensures)

pub join-requires : goal.join-requires
unfolding book_of
join-requires g c =
    let r = c.args.register.now in
    let h = sym c.holds.ensures ∙ c.if-not-holds.false in
    let e = c.page-page.ensures in
    let f = c.in-Some.ensures in
    may_join r _ e _ _ _ _ f _ c.tie_height-height.ensures _ (here_parts r.ledger _ c.args.self.mark h).0
    (ltb-true _ _ (sym c.has_room.ensures.below ∙ c.if-not-has_room.false)) c.if-height-gt-HEIGHT.false refl refl refl
    (hull_grown r _ e _ _ c.index-page-left.result (i_in r _ e _ _ _ _ f) c.index-page-left.is _ c.over_item.ensures)

pub overflow_cast-result : goal.overflow_cast-result
overflow_cast-result g c = let n = page_small c.args.register.now _ c.page-page.ensures in search rules

pub returns-clause-said : goal.returns-clause-said
unfolding book_of
returns-clause-said g c =
    let r = c.args.register.now in
    let m = c.args.self.mark in
    let a = c.in-Some.left in
    let b = c.in-Some.right in
    let h = sym c.holds.ensures ∙ c.if-not-holds.false in
    let o = (here_parts r.ledger _ m h).0 in
    let e = c.page-page.ensures in
    let f = parts _ _ _ _ _ c.ranges.x c.ranges.y c.in-Some.ensures in
    let low = c.if-height-gt-HEIGHT.false in
    let k = c.tie_height-height.ensures in
    let tie : _ = record { item = item.Tie a b; height = c.tie_height-height.result; tied = false; hull = c.over_item.result } in
    let j = may_join r _ e _ _ a b f _ k tie o (ltb-true _ _ (sym c.has_room.ensures.below ∙ c.if-not-has_room.false)) low refl refl refl (hull_grown r _ e a b c.index-page-left.result (i_in r _ e _ _ _ _ f) c.index-page-left.is _ c.over_item.ensures) in
    let t = c.join.new.self.table.now in
    let w = c.join.ensures.table in
    let is : item.Tie a b ≡ item.Tie (nat_abs c.args.x) (nat_abs c.args.y) = sym (ap (λ (z : ℤ). item.Tie (nat_abs z) (nat_abs c.args.y)) f.x_is ∙ ap (λ (z : ℤ). item.Tie a (nat_abs z)) f.y_is) in
    goes (book_of r) _ _ _ (accepted r _ e _ _ _ _ f _ k m h low (sym c.has_room.ensures.room ∙ c.if-not-has_room.false))
    (ap answer.Entered (page_count r _ e ∙ sym (written_length _ _ _ _ _ (sound r) (length_items r.table.now) o)))
    (book_after r a b tie j t w _ c.join.ensures.ledger ∙ ap (added (book_of r)) is)

pub returns-clause-table : goal.returns-clause-table
unfolding book_of
returns-clause-table g c =
    let r = c.args.register.now in
    let a = c.in-Some.left in
    let b = c.in-Some.right in
    let e = c.page-page.ensures in
    let f = parts _ _ _ _ _ c.ranges.x c.ranges.y c.in-Some.ensures in
    let k = c.tie_height-height.ensures in
    let tie : _ = record { item = item.Tie a b; height = c.tie_height-height.result; tied = false; hull = c.over_item.result } in
    let t = c.join.new.self.table.now in
    let w = c.join.ensures.table in
    let is : item.Tie a b ≡ item.Tie (nat_abs c.args.x) (nat_abs c.args.y) = sym (ap (λ (z : ℤ). item.Tie (nat_abs z) (nat_abs c.args.y)) f.x_is ∙ ap (λ (z : ℤ). item.Tie a (nat_abs z)) f.y_is) in
    subst₂ (λ (k : ℕ) (e : Item). Wrote r.table.now t k e) (sym (stored_place r)) is (wrote_joined r.table.now r.ledger.used tie _ refl t _ _ w)

pub returns-clause-place : goal.returns-clause-place
unfolding book_of
returns-clause-place g c =
    let r = c.args.register.now in
    let m = c.args.self.mark in
    let a = c.in-Some.left in
    let b = c.in-Some.right in
    let h = sym c.holds.ensures ∙ c.if-not-holds.false in
    let o = (here_parts r.ledger _ m h).0 in
    let e = c.page-page.ensures in
    let f = parts _ _ _ _ _ c.ranges.x c.ranges.y c.in-Some.ensures in
    let low = c.if-height-gt-HEIGHT.false in
    let k = c.tie_height-height.ensures in
    let tie : _ = record { item = item.Tie a b; height = c.tie_height-height.result; tied = false; hull = c.over_item.result } in
    let j = may_join r _ e _ _ a b f _ k tie o (ltb-true _ _ (sym c.has_room.ensures.below ∙ c.if-not-has_room.false)) low refl refl refl (hull_grown r _ e a b c.index-page-left.result (i_in r _ e _ _ _ _ f) c.index-page-left.is _ c.over_item.ensures) in
    let t = c.join.new.self.table.now in
    let w = c.join.ensures.table in
    let is : item.Tie a b ≡ item.Tie (nat_abs c.args.x) (nat_abs c.args.y) = sym (ap (λ (z : ℤ). item.Tie (nat_abs z) (nat_abs c.args.y)) f.x_is ∙ ap (λ (z : ℤ). item.Tie a (nat_abs z)) f.y_is) in
    tie_stands r _ e a b c.index-page-left.result (i_in r _ e _ _ _ _ f) c.index-page-left.is _ c.over_item.ensures _ _ f _ k tie refl j t w
