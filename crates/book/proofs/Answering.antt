-- What the book answers.
use Rattle.std.proofs.Common.{◌≡◌, ℕ, ◌<◌, ◌≤◌, Bool, true, false, cond, eqb, List, ◌∷◌, length, ℤ, nat_abs, is_some, Some, None, sym, refl, ap, ◌∙◌, subst}
use Rattle.std.proofs.lemmas.Bool.{lt-ltb, le-ltb, eq-eqb, ne_eqb}
use Rattle.book.specs.declared.item.Item.{Item}
use Rattle.book.specs.declared.call.Call.{Call}
use Rattle.book.specs.declared.call.Call.TheVariants as call
use Rattle.book.specs.declared.call.Answer.{Answer}
use Rattle.book.specs.declared.call.Answer.TheVariants as answer
use Rattle.book.specs.declared.refusal.Refusal.{Refusal}
use Rattle.book.specs.declared.refusal.Refusal.TheVariants.{DraftOpen, ObjectsFull, NotThisDraft, OutOfRange, TableFull, PartsNotFree, TooHigh, PartsLeftOver}
use Rattle.book.specs.Refusals.{number}
use Rattle.book.specs.Limits.{object_limit}
use Rattle.book.specs.Facets.{within}
use Rattle.book.specs.Trees.{untied}
use Rattle.book.specs.Books.{Book, written, here, room, joins, low, questions, first_no, turned, taken, decided, outcome, Said}

pub goes : (b : Book) (c : Call) (a : Answer) (after : Book) → first_no (questions b c) ≡ None → a ≡ (taken b c).answer → after ≡ (taken b c).next → Said b c a after
unfolding outcome
goes b c a after q x y = record { answer = x ∙ sym (ap (λ o. (decided b c o).answer) q); book = y ∙ sym (ap (λ o. (decided b c o).next) q) }

pub stays : (b : Book) (c : Call) (why : Refusal) → eqb (number why) 8 ≡ false → first_no (questions b c) ≡ Some why → Said b c (answer.Refused why) b
unfolding outcome
stays b c why ne q = record { answer = sym (ap (λ o. (decided b c o).answer) q); book = sym (ap (λ o. (decided b c o).next) q ∙ ap (λ v. cond v (turned b None) b) ne) }

pub spent : (b : Book) (c : Call) (after : Book) → first_no (questions b c) ≡ Some PartsLeftOver → after ≡ turned b None → Said b c (answer.Refused PartsLeftOver) after
unfolding outcome
spent b c after q e = record { answer = sym (ap (λ o. (decided b c o).answer) q); book = e ∙ sym (ap (λ o. (decided b c o).next) q) }

module _ (b : Book) where
  pub start_yes : is_some b.page ≡ false → length b.objects < object_limit → first_no (questions b call.Start) ≡ None
  start_yes e l = rw (e, lt-ltb (length b.objects) object_limit l) refl

  pub start_1 : is_some b.page ≡ true → first_no (questions b call.Start) ≡ Some DraftOpen
  start_1 e = rw e refl

  pub start_2 : is_some b.page ≡ false → object_limit ≤ length b.objects → first_no (questions b call.Start) ≡ Some ObjectsFull
  start_2 e l = rw (e, le-ltb (length b.objects) object_limit l) refl

  -- a call that is made with a draft asks for it first
  pub other_draft : (c : Call) (qs : List (Refusal × Bool)) (m : ℕ) → questions b c ≡ (NotThisDraft, here b m) ∷ qs → here b m ≡ false → Said b c (answer.Refused NotThisDraft) b
  other_draft c qs m e h = stays b c NotThisDraft refl (ap first_no e ∙ ap (λ v. cond v (first_no qs) (Some NotThisDraft)) h)

  module _ (m : ℕ) (h : here b m ≡ true) where
    module _ (n : List ℤ) where
      pub facet_yes : within n ≡ true → room b ≡ true → first_no (questions b (call.Facet m n)) ≡ None
      facet_yes w r = rw (h, w, r) refl

      pub facet_4 : within n ≡ false → Said b (call.Facet m n) (answer.Refused OutOfRange) b
      facet_4 w = stays b (call.Facet m n) OutOfRange refl (rw (h, w) refl)

      pub facet_5 : within n ≡ true → room b ≡ false → Said b (call.Facet m n) (answer.Refused TableFull) b
      facet_5 w r = stays b (call.Facet m n) TableFull refl (rw (h, w, r) refl)

    module _ (p : List Item) (is : b.page ≡ Some p) (x y : ℤ) where
      at_page : (P : List Item → Type 0) → P p → P (written b.page)
      at_page P q = subst (λ o. P (written o)) (sym is) q

      pub tie_6 : joins p x y ≡ false → Said b (call.Tie m x y) (answer.Refused PartsNotFree) b
      tie_6 j = stays b (call.Tie m x y) PartsNotFree refl (rw (h, at_page (λ q. joins q x y ≡ false) j) refl)

      pub tie_7 : joins p x y ≡ true → low p (nat_abs x) (nat_abs y) ≡ false → Said b (call.Tie m x y) (answer.Refused TooHigh) b
      tie_7 j l = stays b (call.Tie m x y) TooHigh refl (rw (h, at_page (λ q. joins q x y ≡ true) j, at_page (λ q. low q (nat_abs x) (nat_abs y) ≡ false) l) refl)

      pub tie_5 : joins p x y ≡ true → low p (nat_abs x) (nat_abs y) ≡ true → room b ≡ false → Said b (call.Tie m x y) (answer.Refused TableFull) b
      tie_5 j l r = stays b (call.Tie m x y) TableFull refl (rw (h, at_page (λ q. joins q x y ≡ true) j, at_page (λ q. low q (nat_abs x) (nat_abs y) ≡ true) l, r) refl)

      pub tie_yes : joins p x y ≡ true → low p (nat_abs x) (nat_abs y) ≡ true → room b ≡ true → first_no (questions b (call.Tie m x y)) ≡ None
      tie_yes j l r = rw (h, at_page (λ q. joins q x y ≡ true) j, at_page (λ q. low q (nat_abs x) (nat_abs y) ≡ true) l, r) refl

    pub close_yes : untied (written b.page) ≡ 1 → first_no (questions b (call.Close m)) ≡ None
    close_yes u = rw (h, eq-eqb (untied (written b.page)) 1 u) refl

    pub close_8 : (untied (written b.page) ≡ 1 → ⊥) → first_no (questions b (call.Close m)) ≡ Some PartsLeftOver
    close_8 u = rw (h, ne_eqb (untied (written b.page)) 1 u) refl

    pub drop_yes : first_no (questions b (call.Drop m)) ≡ None
    drop_yes = rw h refl
