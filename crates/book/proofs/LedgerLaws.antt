-- A ledger over the items of a table: its book, and what always holds, after each kind of change.
use Rattle.std.proofs.Common.{◌≡◌, ℕ, ◌+◌, ◌-◌, ◌<◌, ◌≤◌, Bool, true, false, cond, ◌&&◌, eqb, ltb, List, [], ◌∷◌, ◌++◌, length, get_or, set, is_some, Some, None, sum_by, Option, sym, refl, ap, ◌∙◌, ⊎_elim, arith}
use Rattle.std.proofs.lemmas.List.{length-set, get_or-set_same, get_or-set_other}
use Rattle.std.proofs.lemmas.List.Sums.{sum_by_push}
use Rattle.std.proofs.lemmas.Bool.{cases_lt, cases_Bool, and_parts, both_ways, false≢true, lt-ltb, le-ltb, eqb-true}
use Rattle.book.specs.declared.item.Facet.{Facet}
use Rattle.book.specs.declared.item.Item.{Item}
use Rattle.book.specs.declared.item.Item.TheVariants as item
use Rattle.book.specs.declared.ledger.Span.{Span}
use Rattle.book.specs.declared.ledger.Ledger.{Ledger}
use Rattle.book.specs.Limits.{object_limit, place_limit}
use Rattle.book.specs.Trees.{trees, flags, untied, Whole}
use Rattle.book.specs.Books.{Book, written, stored, here, room, turned, added, shelved, height_of_tie}
use Rattle.book.specs.Pages.{allowed, goes_on, sane, all_complete, heights}
use Rattle.book.specs.Ledgers.{slice, drafted, objects, book_over, repaged, Placed, Counted, Kept, Written, Drafted}
use Rattle.book.proofs.Slices.{slice_push, slice_set, slice_none, length_slice, objects_kept, objects_push, length_objects}
use Rattle.book.proofs.Forest.{tie_allowed}
use Rattle.book.proofs.Flags.{written_facet, written_tie, untied_le, untied_two}
use Rattle.book.proofs.Wholes.{complete_from, all_complete_push, all_complete_at, whole_from}

pub record Sound (l : Ledger) (places : ℕ) (items : List Item) (hs : List ℕ) (ts : List Bool) : Type 0 where
  pub placed : Placed l places
  pub counted : Counted l
  pub kept : Kept l items
  pub paged : Drafted l items hs ts

-- the ledger with the page as its next object
abbrev pub page_span : Ledger → Span
page_span l = record { from = l.base; to = l.used }

abbrev pub filed_away : Ledger → Ledger
filed_away l = record { mark = l.mark; first = l.first; end = l.end; closed = l.closed + 1; spans = set l.spans l.closed (page_span l); drafting = false; base = l.used; used = l.used; loose = 0 }

pub same_book : {m c c' : ℕ} {p p' : Option (List Item)} {o o' : List (List Item)} → c ≡ c' → p ≡ p' → o ≡ o'
    → ◌≡◌ {A = Book} (record { mark = m; capacity = c; page = p; objects = o }) (record { mark = m; capacity = c'; page = p'; objects = o' })
same_book {m} e f g = λ i. record { mark = m; capacity = e i; page = f i; objects = g i }

written_none : (b : ℕ) (is : List Item) (hs : List ℕ) (ts : List Bool) → Written 0 (slice b b is) (slice b b hs) (slice b b ts)
unfolding heights flags untied sane trees goes_on
written_none b is hs ts = rw (slice_none is b, slice_none hs b, slice_none ts b) (refl, refl, refl, refl)

module _ (l : Ledger) (items : List Item) where
  pub page_some : l.drafting ≡ true → (book_over l items).page ≡ Some (drafted l items)
  unfolding book_over
  page_some o = rw o refl

  pub page_none : l.drafting ≡ false → (book_over l items).page ≡ None
  unfolding book_over
  page_none o = rw o refl

  pub here_is : (m : ℕ) → here (book_over l items) m ≡ (l.drafting && eqb m l.mark)
  unfolding here book_over
  here_is m = elim l.drafting as (λ v. (is_some (cond v (Some (drafted l items)) None) && eqb m l.mark) ≡ (v && eqb m l.mark)) [ true ↦ refl | false ↦ refl ]

  pub here_parts : (m : ℕ) → here (book_over l items) m ≡ true → (l.drafting ≡ true) × (m ≡ l.mark)
  here_parts m h = let q = and_parts l.drafting (eqb m l.mark) (sym (here_is m) ∙ h) in (q.0, eqb-true m l.mark q.1)

-- a stretch that nothing was entered into
pub sound_opened : (m first end places : ℕ) (spans : List Span) (items : List Item) (hs : List ℕ) (ts : List Bool) → first ≤ end → end ≤ places → end - first ≤ place_limit → length spans ≡ object_limit
    → Sound (record { mark = m; first = first; end = end; closed = 0; spans = spans; drafting = false; base = first; used = first; loose = 0 }) places items hs ts
unfolding objects all_complete
sound_opened m first end places spans items hs ts a b c n = record {
  placed = (omega arith, omega arith, a, b, c);
  counted = (omega arith, n, (λ e. absurd (false≢true e)), λ _. refl);
  kept = ((λ k d h. absurd (omega arith)), omega arith, refl);
  paged = written_none first items hs ts;
}

module _ (l : Ledger) (n : ℕ) (items : List Item) (hs : List ℕ) (ts : List Bool) (s : Sound l n items hs ts) where
  -- the page is taken off, or thrown away
  pub sound_cleared : (d : Bool) → (d ≡ true → l.closed < object_limit) → (hs' : List ℕ) (ts' : List Bool) → Sound (repaged l d l.base 0) n items hs' ts'
  sound_cleared d few hs' ts' = record {
    placed = (s.placed.0, omega arith, omega (arith, s.placed), s.placed.3, s.placed.4);
    counted = (s.counted.0, s.counted.1, few, λ _. refl);
    kept = s.kept;
    paged = written_none l.base items hs' ts';
  }

  -- a draft is started
  pub book_started : l.drafting ≡ false → book_over (repaged l true l.used l.loose) items ≡ turned (book_over l items) (Some [])
  unfolding book_over
  book_started o = same_book refl (ap Some (ap (λ k. slice l.base k items) (s.counted.3 o) ∙ slice_none items l.base)) refl

  pub count_objects : length (book_over l items).objects ≡ l.closed
  unfolding book_over
  count_objects = length_objects l.closed l.spans items (omega (arith, s.counted.0, s.counted.1))

  -- every object is whole
  pub objects_whole : (k : ℕ) → k < length (book_over l items).objects → Whole (get_or (book_over l items).objects k [])
  unfolding book_over
  objects_whole k h = whole_from _ (all_complete_at (book_over l items).objects k [] s.kept.2 h)

  module _ (ni : length items ≡ n) where
    pub page_length : length (drafted l items) ≡ l.used - l.base
    page_length = length_slice items l.base l.used (omega (arith, s.placed))

    -- no more items are untied than there are
    pub few_loose : l.loose ≤ l.used - l.base
    few_loose = omega (arith, page_length, s.paged.2, untied_le (drafted l items))

    pub written_length : l.drafting ≡ true → length (written (book_over l items).page) ≡ l.used - l.base
    written_length o = ap (λ q. length (written q)) (page_some l items o) ∙ page_length

    pub stored_is : l.first + stored (book_over l items) ≡ l.used
    unfolding stored book_over
    stored_is = ⊎_elim
        (λ (o : l.drafting ≡ true). rw (page_some l items o) (omega (arith, page_length, s.kept.1, s.placed)))
        (λ (o : l.drafting ≡ false). rw (page_none l items o) (omega (arith, s.kept.1, s.counted.3 o)))
        (cases_Bool l.drafting)

    pub room_is : room (book_over l items) ≡ ltb l.used l.end
    unfolding room book_over
    room_is = ⊎_elim
        (λ (h : l.used < l.end). lt-ltb _ _ (omega (arith, stored_is, s.placed)) ∙ sym (lt-ltb l.used l.end h))
        (λ (h : l.end ≤ l.used). le-ltb _ _ (omega (arith, stored_is, s.placed)) ∙ sym (le-ltb l.used l.end h))
        (cases_lt l.used l.end)

    -- the page is filed
    pub sound_filed : l.drafting ≡ true → l.loose ≡ 1 → Sound (filed_away l) n items hs ts
    sound_filed o one =
        let z = s.counted.1 in
        let lt : l.closed < object_limit = s.counted.2 o in
        let e : objects (l.closed + 1) (set l.spans l.closed (page_span l)) items ≡ objects l.closed l.spans items ++ drafted l items ∷ [] = objects_push l.closed l.spans items (page_span l) (omega arith) in
        record {
          placed = (omega (arith, s.placed), omega arith, s.placed.2, s.placed.3, s.placed.4);
          counted = (omega arith, length-set l.spans l.closed _ ∙ z, (λ f. absurd (false≢true f)), λ _. refl);
          kept = (
            (λ k d h. ⊎_elim
                (λ (q : k < l.closed). let ne : k ≡ l.closed → ⊥ = λ e. omega arith in rw (get_or-set_other l.spans l.closed k (page_span l) d ne) (omega (arith, s.kept.0 k d q, s.placed)))
                (λ (q : l.closed ≤ k). let i : k ≡ l.closed = omega arith in rw (i, get_or-set_same l.spans l.closed (page_span l) d (omega arith)) (omega arith))
                (cases_lt k l.closed)),
            (ap (λ os. l.first + sum_by length os) e ∙ (ap (λ k. l.first + k) (sum_by_push length (objects l.closed l.spans items) (drafted l items)) ∙ omega (arith, page_length, s.kept.1, s.placed))),
            (ap all_complete e ∙ all_complete_push (objects l.closed l.spans items) (drafted l items) s.kept.2 (complete_from (drafted l items) s.paged.3 (sym s.paged.2 ∙ one))),
          );
          paged = written_none l.used items hs ts;
        }

    pub book_filed : l.drafting ≡ true → book_over (filed_away l) items ≡ shelved (book_over l items)
    unfolding book_over
    book_filed o =
        let z = s.counted.1 in
        let lt : l.closed < object_limit = s.counted.2 o in
        same_book refl refl (objects_push l.closed l.spans items (page_span l) (omega arith) ∙ ap (λ q. objects l.closed l.spans items ++ written q ∷ []) (sym (page_some l items o)))

    -- an item is entered
    module _ (e : Item) (o : l.drafting ≡ true) (lt : l.used < l.end) where
      items_pushed : slice l.base (l.used + 1) (set items l.used e) ≡ drafted l items ++ e ∷ []
      items_pushed = slice_push items l.base l.used e s.placed.1 (omega (arith, s.placed))

      objects_same : objects l.closed l.spans (set items l.used e) ≡ objects l.closed l.spans items
      objects_same = objects_kept l.closed l.spans items l.base l.used e s.kept.0 s.placed.1

      pub book_pushed : (loose : ℕ) → book_over (repaged l l.drafting (l.used + 1) loose) (set items l.used e) ≡ added (book_over l items) e
      unfolding book_over
      book_pushed loose = same_book refl
          (ap (λ v. cond v (Some (slice l.base (l.used + 1) (set items l.used e))) None) o ∙ (ap Some items_pushed ∙ ap (λ q. Some (written q ++ e ∷ [])) (sym (page_some l items o))))
          objects_same

      pushed : (loose : ℕ) (hs' : List ℕ) (ts' : List Bool) → Written loose (drafted l items ++ e ∷ []) (slice l.base (l.used + 1) hs') (slice l.base (l.used + 1) ts')
          → Sound (repaged l l.drafting (l.used + 1) loose) n (set items l.used e) hs' ts'
      pushed loose hs' ts' ok = record {
        placed = (s.placed.0, omega (arith, s.placed), omega arith, s.placed.3, s.placed.4);
        counted = (s.counted.0, s.counted.1, s.counted.2, λ f. absurd (both_ways l.drafting f o));
        kept = (s.kept.0, ap (λ os. l.first + sum_by length os) objects_same ∙ s.kept.1, ap all_complete objects_same ∙ s.kept.2);
        paged = rw items_pushed ok;
      }

    module _ (nh : length hs ≡ n) (nt : length ts ≡ n) (o : l.drafting ≡ true) (lt : l.used < l.end) where
      heights_pushed : (h : ℕ) → slice l.base (l.used + 1) (set hs l.used h) ≡ drafted l hs ++ h ∷ []
      heights_pushed h = slice_push hs l.base l.used h s.placed.1 (omega (arith, s.placed))

      pub sound_facet : (f : Facet) → Sound (repaged l l.drafting (l.used + 1) (l.loose + 1)) n (set items l.used (item.Facet f)) (set hs l.used 0) (set ts l.used false)
      sound_facet f = pushed (item.Facet f) o lt (l.loose + 1) _ _
          (rw (heights_pushed 0, slice_push ts l.base l.used false s.placed.1 (omega (arith, s.placed))) (written_facet (drafted l items) f s.paged.3 l.loose _ _ s.paged))

      pub sound_tie : (x y : ℕ) → allowed (drafted l items) (item.Tie x y) ≡ true
          → Sound (repaged l l.drafting (l.used + 1) (l.loose - 1)) n (set items l.used (item.Tie x y)) (set hs l.used (height_of_tie (drafted l items) x y)) (set (set (set ts (l.base + x) true) (l.base + y) true) l.used false)
      sound_tie x y ok =
          let p = drafted l items in
          let j = (tie_allowed p x y ok).0 in
          let m = page_length in
          let zs = set (set ts (l.base + x) true) (l.base + y) true in
          let nz : length zs ≡ n = length-set (set ts (l.base + x) true) (l.base + y) true ∙ (length-set ts (l.base + x) true ∙ nt) in
          let b : slice l.base l.used zs ≡ set (set (drafted l ts) x true) y true = slice_set (set ts (l.base + x) true) l.base l.used y true (omega (arith, j.y_in)) ∙ ap (λ q. set q y true) (slice_set ts l.base l.used x true (omega (arith, j.x_in))) in
          let c : slice l.base (l.used + 1) (set zs l.used false) ≡ set (set (drafted l ts) x true) y true ++ false ∷ [] = slice_push zs l.base l.used false s.placed.1 (omega (arith, s.placed)) ∙ ap (λ q. q ++ false ∷ []) b in
          let w : Written (l.loose - 1 + 1) p (drafted l hs) (drafted l ts) = (s.paged.0, s.paged.1, omega (arith, s.paged.2, untied_two p x y j), s.paged.3) in
          pushed (item.Tie x y) o lt (l.loose - 1) _ _ (rw (heights_pushed (height_of_tie p x y), c) (written_tie p x y s.paged.3 ok (l.loose - 1) _ _ w))
