-- One facet is filed as an object.
use Rattle.std.proofs.Common.{◌≡◌, ℕ, ◌<◌, ◌≤◌, true, false, List, [], ◌∷◌, length, ℤ, is_some, Some, None, Ok, Err, Option, Result, sym, refl, ap, ◌∙◌, ⊎_elim, arith}
use Rattle.std.proofs.lemmas.Bool.{cases_Bool, cases_lt, lt-ltb, le-ltb, eq-eqb}
use Rattle.hull.specs.declared.corner.Corner.{Corner}
use Rattle.hull.specs.declared.kind.Hull as hull
use Rattle.book.specs.declared.item.Facet.{Facet}
use Rattle.book.specs.declared.item.Item.{Item}
use Rattle.book.specs.declared.item.Item.TheVariants as item
use Rattle.book.specs.declared.call.Call.{Call}
use Rattle.book.specs.declared.call.Call.TheVariants as call
use Rattle.book.specs.declared.call.Answer.{Answer}
use Rattle.book.specs.declared.call.Answer.TheVariants as answer
use Rattle.book.specs.declared.refusal.Refusal.{Refusal}
use Rattle.book.specs.declared.refusal.Refusal.TheVariants.{DraftOpen, ObjectsFull, OutOfRange, TableFull}
use Rattle.book.specs.Limits.{object_limit}
use Rattle.book.specs.Facets.{within, facet_of}
use Rattle.book.specs.Trees.{untied, flags, tied}
use Rattle.book.specs.Books.{Book, here, room, stored, first_no, turned, shelved, Said}
use Rattle.book.proofs.Answering.{goes, stays, start_1, start_2, start_yes, facet_4, facet_5, facet_yes, close_yes, drop_yes}
use Rattle.register.specs.declared.draft.Draft.{Draft}
use Rattle.register.specs.declared.draft.Unclosed.{Unclosed}
use Rattle.register.specs.declared.register.Register.{Register}
use Rattle.register.specs.Tables.{FacetStands}
use Rattle.register.specs.Registers.{book_of, entered, filed, FilledBy, lone_questions, FiledAlone}

-- a call has one answer, and leaves one book
same : {b : Book} {c : Call} {a a' : Answer} {x x' : Book} → Said b c a x → Said b c a' x' → (a ≡ a') × (x ≡ x')
same s t = (s.answer ∙ sym t.answer, s.book ∙ sym t.book)

-- nothing stands where 0 is 1
never : {X : Type 0} → ◌≡◌ {A = ℕ} 0 1 → X
never z = absurd (omega arith)

none_is : (o : Option (List Item)) → is_some o ≡ false → o ≡ None
none_is None e = refl
none_is (Some p) e = never (cc)

module _ (b : Book) (n : List ℤ) where
  -- no draft is started
  module _ (why : Refusal) (after : Book) (s : Said b call.Start (answer.Refused why) after) where
    stopped : (w : Refusal) → Said b call.Start (answer.Refused w) b → first_no (lone_questions b n) ≡ Some w → FiledAlone b n (Err why) after
    stopped w t q = let e = same s t in (cc, e.1)

    pub not_started : FiledAlone b n (Err why) after
    not_started = ⊎_elim
        (λ (p : is_some b.page ≡ true). stopped DraftOpen (stays b call.Start DraftOpen refl (start_1 b p)) (rw p refl))
        (λ (p : is_some b.page ≡ false). ⊎_elim
        (λ (l : length b.objects < object_limit). let e = same s (goes b call.Start _ _ (start_yes b p l) refl refl) in never (cc))
        (λ (l : object_limit ≤ length b.objects). stopped ObjectsFull (stays b call.Start ObjectsFull refl (start_2 b p l)) (rw (p, le-ltb (length b.objects) object_limit l) refl))
        (cases_lt (length b.objects) object_limit))
        (cases_Bool (is_some b.page))

  -- a draft is started
  module _ (b1 : Book) (s : Said b call.Start answer.Started b1) where
    record Begun : Type 0 where
      none : b.page ≡ None
      few : length b.objects < object_limit
      next : b1 ≡ turned b (Some [])

    not_stopped : {X : Type 0} (w : Refusal) → Said b call.Start (answer.Refused w) b → X
    not_stopped w t = let e = same s t in never (cc)

    begun : Begun
    begun = ⊎_elim
        (λ (p : is_some b.page ≡ true). not_stopped DraftOpen (stays b call.Start DraftOpen refl (start_1 b p)))
        (λ (p : is_some b.page ≡ false). ⊎_elim
        (λ (l : length b.objects < object_limit). record { none = none_is b.page p; few = l; next = (same s (goes b call.Start _ _ (start_yes b p l) refl refl)).1 })
        (λ (l : object_limit ≤ length b.objects). not_stopped ObjectsFull (stays b call.Start ObjectsFull refl (start_2 b p l)))
        (cases_lt (length b.objects) object_limit))
        (cases_Bool (is_some b.page))

    lone_rest : first_no (lone_questions b n) ≡ first_no ((OutOfRange, within n) ∷ (TableFull, room b) ∷ [])
    lone_rest = rw (begun.none, lt-ltb (length b.objects) object_limit begun.few) refl

    pub stored_same : stored b1 ≡ stored b
    unfolding stored
    stored_same = rw (begun.next, begun.none) refl

    room_same : room b1 ≡ room b
    unfolding room
    room_same = rw (stored_same, begun.next) refl

    module _ (draft back : Draft) (mark : draft.mark ≡ b.mark) (same-draft : back ≡ draft) where
      here_on : (q : List Item) → here (turned b (Some q)) draft.mark ≡ true
      unfolding here
      here_on q = eq-eqb draft.mark b.mark mark

      here_1 : here b1 draft.mark ≡ true
      here_1 = rw begun.next (here_on [])

      module _ (r : Result ℕ Refusal) (b2 : Book) (f : Said b1 (call.Facet draft.mark n) (entered r) b2) where
        accepted : within n ≡ true → room b ≡ true → (entered r ≡ answer.Entered 0) × (b2 ≡ turned b (Some (item.Facet (facet_of n) ∷ [])))
        accepted w l = same f (rw begun.next (goes (turned b (Some [])) (call.Facet draft.mark n) _ _ (facet_yes _ draft.mark (here_on []) n w (rw (← begun.next, room_same) l)) refl refl))

        full : within n ≡ true → room b ≡ false → (entered r ≡ answer.Refused TableFull) × (b2 ≡ b1)
        full w l = same f (facet_5 b1 draft.mark here_1 n w (room_same ∙ l))

        far : within n ≡ false → (entered r ≡ answer.Refused OutOfRange) × (b2 ≡ b1)
        far w = same f (facet_4 b1 draft.mark here_1 n w)

        -- the facet is refused, and the draft dropped
        module _ (why : Refusal) (is : r ≡ Err why) where
          refused : (first_no (lone_questions b n) ≡ Some why) × (b2 ≡ b1)
          refused =
              let i = ap entered is in
              ⊎_elim
              (λ (w : within n ≡ true). ⊎_elim
              (λ (l : room b ≡ true). let e = accepted w l in never (cc))
              (λ (l : room b ≡ false). let e = full w l in let q : first_no (lone_questions b n) ≡ Some TableFull = lone_rest ∙ rw (w, l) refl in (cc, e.1))
              (cases_Bool (room b)))
              (λ (w : within n ≡ false). let e = far w in let q : first_no (lone_questions b n) ≡ Some OutOfRange = lone_rest ∙ rw w refl in (cc, e.1))
              (cases_Bool (within n))

          dropping : {a : Answer} {b3 : Book} → Said b2 (call.Drop back.mark) a b3 → (a ≡ answer.Removed 0) × (b3 ≡ turned b None)
          dropping d = same d (rw (same-draft, refused.1, begun.next) (goes (turned b (Some [])) (call.Drop draft.mark) _ _ (drop_yes (turned b (Some [])) draft.mark (here_on [])) refl refl))

          pub dropped : (a : Answer) (b3 : Book) → Said b2 (call.Drop back.mark) a b3 → FiledAlone b n (Err why) b3
          dropped a b3 d = (refused.0, (dropping d).1 ∙ ap (turned b) (sym begun.none))

          pub not_dropped : {X : Type 0} (w : Refusal) (b3 : Book) → Said b2 (call.Drop back.mark) (answer.Refused w) b3 → X
          not_dropped w b3 d = let e = dropping d in never (cc)

        -- the facet is entered, and the draft closed
        module _ (k : ℕ) (is : r ≡ Ok k) where
          abbrev page : List Item
          page = item.Facet (facet_of n) ∷ []

          taken : (first_no (lone_questions b n) ≡ None) × (b2 ≡ turned b (Some page))
          taken =
              let i = ap entered is in
              ⊎_elim
              (λ (w : within n ≡ true). ⊎_elim
              (λ (l : room b ≡ true). (lone_rest ∙ rw (w, l) refl, (accepted w l).1))
              (λ (l : room b ≡ false). let e = full w l in never (cc))
              (cases_Bool (room b)))
              (λ (w : within n ≡ false). let e = far w in never (cc))
              (cases_Bool (within n))

          one : untied page ≡ 1
          unfolding untied flags tied
          one = refl

          closing : {a : Answer} {b3 : Book} → Said b2 (call.Close back.mark) a b3 → (a ≡ answer.Filed (length b.objects)) × (b3 ≡ shelved (turned b (Some page)))
          closing d = same d (rw (same-draft, taken.1) (goes (turned b (Some page)) (call.Close draft.mark) _ _ (close_yes (turned b (Some page)) draft.mark (here_on page) one) refl refl))

          pub closes : (k : Result ℕ Unclosed) (b3 : Book) → Said b2 (call.Close back.mark) (filed k) b3 → (i : ℕ) × (k ≡ Ok i) × FiledAlone b n (Ok i) b3
          closes (Ok i) b3 d = let e = closing d in (i, refl, (taken.0, cc, e.1))
          closes (Err why) b3 d = let e = closing d in never (cc)

-- the table, through the calls
module _ {H : Type 0} {kind : hull.Ghosts H} (r0 r1 r2 r3 : Register H kind) (t1 : r1.table.now ≡ r0.table.now) (t3 : r3.table.now ≡ r2.table.now) (begin : Corner → H) (grow : H → Corner → H) (e : Facet) (r : Result ℕ Refusal) (w : FilledBy (FacetStands begin grow e) r1 r2 r) where
  pub table_stands : (k : ℕ) → r ≡ Ok k → Said (book_of r0) call.Start answer.Started (book_of r1) → FacetStands begin grow e (book_of r0) r0.table.now r3.table.now
  table_stands k is s = let v : FacetStands begin grow e (book_of r1) r1.table.now r2.table.now = rw is at w in let q = stored_same (book_of r0) [] (book_of r1) s in cc
