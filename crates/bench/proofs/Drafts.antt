-- A draft stays its register's until close or drop spends it.
use Rattle.std.proofs.Common.{◌≡◌, ℕ, Bool, true, false, true≢false, cond, not, eqb, ltb, List, [], ◌∷◌, length, ℤ, is_some, Some, None, Result, Ok, Err, IsOk, sym, refl, ap, ◌∙◌, subst}
use Rattle.std.proofs.lemmas.Bool.{and_parts, eq-eqb}
use Rattle.book.specs.declared.call.Call.{Call}
use Rattle.book.specs.declared.call.Call.TheVariants as call
use Rattle.book.specs.declared.call.Answer.{Answer}
use Rattle.book.specs.declared.call.Answer.TheVariants as answer
use Rattle.book.specs.declared.refusal.Refusal.{Refusal}
use Rattle.book.specs.declared.refusal.Refusal.TheVariants.{DraftOpen, ObjectsFull, NotThisDraft, PartsLeftOver}
use Rattle.book.specs.Refusals.{number}
use Rattle.book.specs.Limits.{object_limit}
use Rattle.book.specs.Trees.{untied}
use Rattle.register.specs.declared.draft.Draft.{Draft}
use Rattle.register.specs.declared.draft.Unclosed.{Unclosed}
use Rattle.register.specs.declared.draft.Unclosed.TheVariants as unclosed
use Rattle.register.specs.Registers.{filed, removed}
use Rattle.book.specs.Books.{Book, written, here, questions, first_no, turned, taken, decided, outcome, Said}

-- no question here loses the draft
Mild : List (Refusal × Bool) → Type 0
Mild [] = Unit {0}
Mild (q ∷ qs) = (eqb (number q.0) 8 ≡ false) × Mild qs

-- what holds of the book, and of the book after the call is accepted, holds after the call
after_call : (P : Book → Type 0) (b : Book) (c : Call) (qs : List (Refusal × Bool)) → Mild qs → P b → P (taken b c).next → P (decided b c (first_no qs)).next
unfolding Mild
after_call P b c [] mild p t = t
after_call P b c (q ∷ qs) mild p t =
    elim q.1 as (λ v. P (decided b c (cond v (first_no qs) (Some q.0))).next) [
      | true ↦ after_call P b c qs mild.1 p t
      | false ↦ subst (λ v. P (cond v (turned b None) b)) (sym mild.0) p
    ]

module _ (b after : Book) where
  start_by : (x y : Bool) → answer.Started ≡ (decided b call.Start (cond x (cond y None (Some ObjectsFull)) (Some DraftOpen))).answer
      → here (decided b call.Start (cond x (cond y None (Some ObjectsFull)) (Some DraftOpen))).next b.mark ≡ true
  unfolding here
  start_by true true e = eq-eqb b.mark b.mark refl
  start_by true false e = cc
  start_by false true e = cc
  start_by false false e = cc

  -- a draft that is handed out is the register's
  pub start_here : Said b call.Start answer.Started after → here after b.mark ≡ true
  unfolding outcome
  start_here s = subst (λ x. here x b.mark ≡ true) (sym s.book) (start_by (not (is_some b.page)) (ltb (length b.objects) object_limit) s.answer)

  module _ (m : ℕ) (h : here b m ≡ true) where
    marked : eqb m b.mark ≡ true
    unfolding here
    marked = (and_parts (is_some b.page) (eqb m b.mark) h).1

    -- it stays so at a call that has no question which loses it, and does not spend it
    stays : (c : Call) (a : Answer) → Mild (questions b c) → here (taken b c).next m ≡ true → Said b c a after → here after m ≡ true
    unfolding outcome
    stays c a mild after_taken s =
        subst (λ x. here x m ≡ true) (sym s.book) (after_call (λ x. here x m ≡ true) b c (questions b c) mild h after_taken)

    -- so when a facet or a tie is entered or refused
    pub facet_here : (n : List ℤ) (a : Answer) → Said b (call.Facet m n) a after → here after m ≡ true
    unfolding here Mild
    facet_here n a = stays (call.Facet m n) a (refl, (refl, (refl, tt))) marked

    pub tie_here : (x y : ℤ) (a : Answer) → Said b (call.Tie m x y) a after → here after m ≡ true
    unfolding here Mild
    tie_here x y a = stays (call.Tie m x y) a (refl, (refl, (refl, (refl, tt)))) marked

    close_by : (t : Bool) → answer.Refused NotThisDraft ≡ (decided b (call.Close m) (cond t None (Some PartsLeftOver))).answer → true ≡ false
    close_by true e = cc
    close_by false e = cc

    -- close does not give it back
    pub close_here : (r : Result ℕ Unclosed) (back : Draft) → r ≡ Err (unclosed.NotThisDraft back) → Said b (call.Close m) (filed r) after → ⊥
    unfolding outcome
    close_here r back e s =
        let one = eqb (untied (written b.page)) 1 in
        true≢false (close_by one (sym (ap filed e) ∙ s.answer ∙ ap (λ v. (decided b (call.Close m) (cond v (cond one None (Some PartsLeftOver)) (Some NotThisDraft))).answer) h))

    -- drop does not refuse it
    pub drop_here : (r : Result ℕ (Draft × Refusal)) → Said b (call.Drop m) (removed r) after → IsOk r
    unfolding outcome
    drop_here (Ok n) s = refl
    drop_here (Err back) s =
        let e : answer.Refused back.1 ≡ (taken b (call.Drop m)).answer = s.answer ∙ ap (λ v. (decided b (call.Drop m) (cond v None (Some NotThisDraft))).answer) h in
        cc
