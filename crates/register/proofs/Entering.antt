-- A facet or a tie is entered.
use Rattle.std.proofs.Common.{◌≡◌, ℕ, ◌+◌, ◌-◌, ◌<◌, ◌≤◌, Bool, true, false, List, length, get_or, drop, set, ℤ, nat_abs, Some, None, fold, sym, refl, ap, ◌∙◌, subst, arith}
use Rattle.std.proofs.lemmas.List.{length-set, set-get_or, get_or-take, get_or-drop}
use Rattle.std.proofs.lemmas.Bool.{and_from, le-leb, lt-leb}
use Rattle.hull.specs.declared.kind.Hull as hull
use Rattle.book.specs.declared.item.Facet.{Facet}
use Rattle.book.specs.declared.item.Item.{Item}
use Rattle.book.specs.declared.item.Item.TheVariants as item
use Rattle.book.specs.declared.ledger.Ledger.{Ledger}
use Rattle.book.specs.declared.call.Call.TheVariants as call
use Rattle.book.specs.declared.call.Answer.TheVariants as answer
use Rattle.book.specs.declared.refusal.Refusal.TheVariants.{TooHigh, TableFull}
use Rattle.book.specs.Limits.{height_limit, place_limit}
use Rattle.book.specs.Facets.{corners_of}
use Rattle.book.specs.Trees.{tree, trees, tree_of, corners, flags}
use Rattle.book.specs.Books.{written, stored, here, room, joins, low, height_of_tie, questions, first_no, added, Said}
use Rattle.book.specs.Pages.{allowed, sane, heights}
use Rattle.book.specs.Ledgers.{slice, drafted, book_over, repaged}
use Rattle.book.specs.Hulls.{GrownFrom, GrownOver}
use Rattle.book.proofs.Slices.{length_slice}
use Rattle.book.proofs.Forest.{Joins, joins_parts, tie_allowed}
use Rattle.book.proofs.Flags.{untied_two}
use Rattle.book.proofs.Joining.{joins_pos}
use Rattle.book.proofs.LedgerLaws.{Sound, sound_cleared, sound_facet, sound_tie, book_pushed, page_length, page_some, here_parts}
use Rattle.book.proofs.Answering.{tie_5, tie_7, tie_yes}
use Rattle.book.proofs.Growth.{grown_cleared, grown_pushed, from_tie}
use Rattle.register.specs.declared.place.Place.{Place}
use Rattle.register.specs.declared.register.Register.{Register}
use Rattle.register.specs.Tables.{items_of, heights_of, tieds_of, hulls_of, Joined, FreeParts, Wrote, place_of, tie_place, TieStands}
use Rattle.register.specs.Registers.{book_of, Joining, with_tie}
use Rattle.register.proofs.Flagging.{thrice, length_thrice, joined}
use Rattle.register.proofs.Fields.{table_of, sound, sound_as, Ghosts, spread, stored_place, length_items, length_heights, length_tieds, length_hulls, items_set, heights_set, tieds_set, hulls_set, items_slice, heights_slice, tieds_slice, hulls_slice, items_at, hulls_at}

-- the page is off while places are flagged
pub off : {H : Type 0} {kind : hull.Ghosts H} (r : Register H kind) (t : List (Place H)) → length t ≡ length (table_of r) → items_of t ≡ items_of (table_of r)
    → Sound (repaged r.ledger r.ledger.drafting r.ledger.base 0) (length t) (items_of t) (heights_of t) (tieds_of t)
off r t n e = sound_as _ (length (table_of r)) _ _ _ t n e refl refl (sound_cleared r.ledger _ _ _ _ (sound r) r.ledger.drafting r.counted.2 (heights_of t) (tieds_of t))

-- no hull of the page is spoken of then
pub grown_off : {H : Type 0} {kind : hull.Ghosts H} (r : Register H kind) (t : List (Place H)) → items_of t ≡ items_of (table_of r) → hulls_of t ≡ hulls_of (table_of r)
    → GrownOver kind.begun kind.grown (repaged r.ledger r.ledger.drafting r.ledger.base 0) (items_of t) (hulls_of t)
grown_off {kind} r t e eh = rw (e, eh) (grown_cleared kind.begun kind.grown r.ledger _ _ r.grown r.ledger.drafting)

-- so it stays sound where a place is written with the item and the hull that it has
module _ {H : Type 0} {kind : hull.Ghosts H} (r : Register H kind) (t : List (Place H)) (n : length t ≡ length (table_of r)) (e : items_of t ≡ items_of (table_of r)) (eh : hulls_of t ≡ hulls_of (table_of r)) (i : ℕ) (d p : Place H) (h : i < length (table_of r)) (is : p.item ≡ (get_or (table_of r) i d).item) (its : p.hull ≡ (get_or (table_of r) i d).hull) where
  pub items_off : items_of (set t i p) ≡ items_of (table_of r)
  items_off =
      let all = items_of (table_of r) in
      items_set t i p ∙ (ap (λ l. set l i p.item) e ∙ (ap (set all i) (is ∙ sym (items_at (table_of r) i d h p.item)) ∙ set-get_or all i p.item))

  pub hulls_off : hulls_of (set t i p) ≡ hulls_of (table_of r)
  hulls_off =
      let all = hulls_of (table_of r) in
      hulls_set t i p ∙ (ap (λ l. set l i p.hull) eh ∙ (ap (set all i) (its ∙ sym (hulls_at (table_of r) i d h p.hull)) ∙ set-get_or all i p.hull))

  pub length_off : length (set t i p) ≡ length (table_of r)
  length_off = length-set t i p ∙ n

  pub ghosts_off : Ghosts kind (repaged r.ledger r.ledger.drafting r.ledger.base 0) (set t i p)
  ghosts_off = spread kind _ (set t i p) (off r (set t i p) length_off items_off) (rw length_off r.alone) (grown_off r (set t i p) items_off hulls_off)

-- item x of the draft stands so far after its first place
item_place : {H : Type 0} {kind : hull.Ghosts H} (r : Register H kind) (x : ℕ) → place_of (book_of r) x ≡ r.ledger.base + x
unfolding book_of book_over
item_place r x = omega (arith, r.kept.1, r.alone.0)

-- what is written at one place, by its item and hull alone
module _ {H : Type 0} (before : List (Place H)) (at : ℕ) (p : Place H) (e : Item) (is : p.item ≡ e) where
  pub wrote_set : (after : List (Place H)) → after ≡ set before at p → Wrote before after at e
  wrote_set after w = record {
    hull = p.hull;
    items = ap items_of w ∙ (items_set before at p ∙ ap (set (items_of before) at) is);
    hulls = ap hulls_of w ∙ hulls_set before at p;
  }

  pub wrote_joined : (after : List (Place H)) (i j : ℕ) → Joined before after i j at p → Wrote before after at e
  wrote_joined after i j w = record { hull = p.hull; items = w.items ∙ ap (set (items_of before) at) is; hulls = w.hulls }

-- a facet is written at the first free place
module _ {H : Type 0} {kind : hull.Ghosts H} (r : Register H kind) (o : r.ledger.drafting ≡ true) (lt : r.ledger.used < r.ledger.end) (f : Facet) (p : Place H) (is : p.item ≡ item.Facet f) where
  abbrev table : List (Place H)
  table = set (table_of r) r.ledger.used p

  abbrev ledger : Ledger
  ledger = repaged r.ledger r.ledger.drafting (r.ledger.used + 1) (r.ledger.loose + 1)

  items_facet : items_of table ≡ set (items_of (table_of r)) r.ledger.used (item.Facet f)
  items_facet = items_set (table_of r) r.ledger.used p ∙ ap (set (items_of (table_of r)) r.ledger.used) is

  grown_facet : GrownFrom kind.begun kind.grown (corners_of f) p.hull → GrownOver kind.begun kind.grown ledger (items_of table) (hulls_of table)
  grown_facet m = rw (items_facet, hulls_set (table_of r) r.ledger.used p) (grown_pushed kind.begun kind.grown r.ledger _ _ r.grown _ (r.ledger.loose + 1) _ _ (sound r) (length_items (table_of r)) (length_hulls (table_of r)) (item.Facet f) p.hull lt m)

  pub ghosts_facet : p.height ≡ 0 → p.tied ≡ false → GrownFrom kind.begun kind.grown (corners_of f) p.hull → Ghosts kind ledger table
  ghosts_facet eh et m =
      let t = table_of r in
      let at = r.ledger.used in
      spread kind ledger table (sound_as ledger (length t) _ _ _ table (length-set t at p) items_facet (heights_set t at p ∙ ap (set (heights_of t) at) eh) (tieds_set t at p ∙ ap (set (tieds_of t) at) et)
      (sound_facet r.ledger _ _ _ _ (sound r) (length_items t) (length_heights t) (length_tieds t) o lt f)) (rw (length-set t at p) r.alone) (grown_facet m)

  pub book_facet : book_over ledger (items_of table) ≡ added (book_of r) (item.Facet f)
  unfolding book_of
  book_facet = ap (book_over ledger) items_facet ∙ book_pushed r.ledger _ _ _ _ (sound r) (length_items (table_of r)) (item.Facet f) o lt (r.ledger.loose + 1)

-- a tie is written there, and its parts are flagged
module _ {H : Type 0} {kind : hull.Ghosts H} (r : Register H kind) (x y : ℕ) (tie : Place H) (j : Joining r x y tie) where
  abbrev page : List Item
  page = drafted r.ledger (items_of (table_of r))

  both : Joins page x y
  both = (tie_allowed page x y j.allowed).0

  count : length page ≡ r.ledger.used - r.ledger.base
  count = page_length _ _ _ _ _ (sound r) (length_items (table_of r))

  pub x_place : r.ledger.base + x < length (table_of r)
  x_place = omega (arith, both.x_in, count, r.placed)

  pub y_place : r.ledger.base + y < length (table_of r)
  y_place = omega (arith, both.y_in, count, r.placed)

  pub some_loose : 1 ≤ r.ledger.loose
  some_loose = omega (arith, r.paged.2, untied_two page x y both)

  -- the register after it
  module _ (t : List (Place H)) (w : Joined (table_of r) t (r.ledger.base + x) (r.ledger.base + y) r.ledger.used tie) where
    items_after : items_of t ≡ set (items_of (table_of r)) r.ledger.used (item.Tie x y)
    items_after = w.items ∙ ap (set (items_of (table_of r)) r.ledger.used) j.item

    sound_after : length t ≡ length (table_of r) → Sound (with_tie r.ledger) (length t) (items_of t) (heights_of t) (tieds_of t)
    sound_after n = sound_as _ (length (table_of r)) _ _ _ t n items_after
        (w.heights ∙ ap (set (heights_of (table_of r)) r.ledger.used) j.height)
        (w.tieds ∙ ap (λ v. set (set (set (tieds_of (table_of r)) (r.ledger.base + x) true) (r.ledger.base + y) true) r.ledger.used v) j.untied)
        (sound_tie r.ledger _ _ _ _ (sound r) (length_items (table_of r)) (length_heights (table_of r)) (length_tieds (table_of r)) j.drafting j.room x y j.allowed)

    grown_after : GrownOver kind.begun kind.grown (with_tie r.ledger) (items_of t) (hulls_of t)
    grown_after = rw (items_after, w.hulls) (grown_pushed kind.begun kind.grown r.ledger _ _ r.grown _ (r.ledger.loose - 1) _ _ (sound r) (length_items (table_of r)) (length_hulls (table_of r)) (item.Tie x y) tie.hull j.room j.hull)

    pub joined_after : (q : Place H) → tie ≡ q → Joined (table_of r) t (place_of (book_of r) x) (place_of (book_of r) y) (stored (book_of r)) q
    joined_after q e = rw (← e, item_place r x, item_place r y, stored_place r) w

    module _ (l : Ledger) (e : l ≡ with_tie r.ledger) where
      pub book_after : book_over l (items_of t) ≡ added (book_of r) (item.Tie x y)
      unfolding book_of
      book_after = ap (λ q. book_over q (items_of t)) e ∙ (ap (book_over (with_tie r.ledger)) items_after ∙ book_pushed r.ledger _ _ _ _ (sound r) (length_items (table_of r)) (item.Tie x y) j.drafting j.room (r.ledger.loose - 1))

  -- what holds after the three writes, where the two places are read with these defaults
  module _ (dl dr : Place H) where
    abbrev pub t3 : List (Place H)
    t3 = thrice (table_of r) (r.ledger.base + x) (r.ledger.base + y) r.ledger.used dl dr tie x_place y_place

    pub joined3 : Joined (table_of r) t3 (r.ledger.base + x) (r.ledger.base + y) r.ledger.used tie
    joined3 = joined (table_of r) (r.ledger.base + x) (r.ledger.base + y) r.ledger.used dl dr tie x_place y_place

    pub ghosts3 : Ghosts kind (with_tie r.ledger) t3
    ghosts3 =
        let n = length_thrice (table_of r) (r.ledger.base + x) (r.ledger.base + y) r.ledger.used dl dr tie x_place y_place in
        spread kind _ t3 (sound_after t3 joined3 n) (rw n r.alone) (grown_after t3 joined3)

-- the places of the draft
module _ {H : Type 0} {kind : hull.Ghosts H} (r : Register H kind) (p : List (Place H)) (e : p ≡ drafted r.ledger (table_of r)) where
  pub page_items : items_of p ≡ drafted r.ledger (items_of (table_of r))
  page_items = ap items_of e ∙ items_slice (table_of r) r.ledger.base r.ledger.used

  pub page_heights : heights_of p ≡ heights (items_of p)
  page_heights = ap heights_of e ∙ (heights_slice (table_of r) r.ledger.base r.ledger.used ∙ (r.paged.0 ∙ ap heights (sym page_items)))

  pub page_tieds : tieds_of p ≡ flags (items_of p)
  page_tieds = ap tieds_of e ∙ (tieds_slice (table_of r) r.ledger.base r.ledger.used ∙ (r.paged.1 ∙ ap flags (sym page_items)))

  pub page_sane : sane (items_of p) ≡ true
  page_sane = ap sane page_items ∙ r.paged.3

  pub page_count : length p ≡ r.ledger.used - r.ledger.base
  page_count = ap length e ∙ length_slice (table_of r) r.ledger.base r.ledger.used (omega (arith, r.placed))

  pub page_small : length p ≤ place_limit
  page_small = omega (arith, page_count, r.placed)

  -- two items that may be tied
  module _ (x y : ℤ) (i k : ℕ) (f : FreeParts (items_of p) x y i k) where
    pub i_in : i < length p
    i_in = omega (arith, (joins_parts (items_of p) i k f.free).x_in, length_items p)

    pub k_in : k < length p
    k_in = omega (arith, (joins_parts (items_of p) i k f.free).y_in, length_items p)

    pub i_small : i < place_limit
    i_small = omega (arith, i_in, page_small)

    pub k_small : k < place_limit
    k_small = omega (arith, k_in, page_small)

    joins_here : joins (drafted r.ledger (items_of (table_of r))) x y ≡ true
    joins_here = subst (λ q. joins q x y ≡ true) page_items (joins_pos (items_of p) i k x y f.x_is f.y_is ∙ f.free)

    module _ (h : ℕ) (is : h ≡ height_of_tie (items_of p) i k) where
      at_numbers : (b : Bool) → low (items_of p) i k ≡ b → low (drafted r.ledger (items_of (table_of r))) (nat_abs x) (nat_abs y) ≡ b
      at_numbers b l = rw (f.x_is, f.y_is) (subst (λ q. low q i k ≡ b) page_items l)

      low_yes : h ≤ height_limit → low (drafted r.ledger (items_of (table_of r))) (nat_abs x) (nat_abs y) ≡ true
      unfolding low
      low_yes l = at_numbers true (le-leb _ height_limit (omega arith))

      low_no : height_limit < h → low (drafted r.ledger (items_of (table_of r))) (nat_abs x) (nat_abs y) ≡ false
      unfolding low
      low_no l = at_numbers false (lt-leb _ height_limit (omega arith))

      -- the call with the draft of this mark
      module _ (m : ℕ) (draft : here (book_of r) m ≡ true) where
        page_is : (book_of r).page ≡ Some (drafted r.ledger (items_of (table_of r)))
        unfolding book_of
        page_is = page_some r.ledger _ (here_parts r.ledger _ m draft).0

        pub too_high : height_limit < h → Said (book_of r) (call.Tie m x y) (answer.Refused TooHigh) (book_of r)
        too_high l = tie_7 (book_of r) m draft _ page_is x y joins_here (low_no l)

        module _ (l : h ≤ height_limit) where
          pub table_full : room (book_of r) ≡ false → Said (book_of r) (call.Tie m x y) (answer.Refused TableFull) (book_of r)
          table_full n = tie_5 (book_of r) m draft _ page_is x y joins_here (low_yes l) n

          pub accepted : room (book_of r) ≡ true → first_no (questions (book_of r) (call.Tie m x y)) ≡ None
          accepted n = tie_yes (book_of r) m draft _ page_is x y joins_here (low_yes l) n

      allowed_low : h ≤ height_limit → low (items_of p) i k ≡ true
      unfolding low
      allowed_low l = le-leb _ height_limit (omega arith)

      pub may_join : (tie : Place H) → r.ledger.drafting ≡ true → r.ledger.used < r.ledger.end → h ≤ height_limit → tie.item ≡ item.Tie i k → tie.height ≡ h → tie.tied ≡ false
          → GrownFrom kind.begun kind.grown (corners (tree_of (trees (drafted r.ledger (items_of (table_of r)))) (item.Tie i k))) tie.hull → Joining r i k tie
      may_join tie o lt l ei eh et m = record {
        drafting = o;
        room = lt;
        allowed = subst (λ q. allowed q (item.Tie i k) ≡ true) page_items (and_from _ _ f.free (allowed_low l));
        item = ei;
        height = eh ∙ (is ∙ ap (λ q. height_of_tie q i k) page_items);
        untied = et;
        hull = m;
      }

  page_book : r.ledger.drafting ≡ true → items_of p ≡ written (book_of r).page
  unfolding book_of
  page_book o = page_items ∙ sym (ap written (page_some r.ledger _ o))

  -- the hull of an item
  module _ (i : ℕ) (left : Place H) (h : i < length p) (is : left ≡ get_or p i left) (d : H) where
    hull_drafted : left.hull ≡ get_or (drafted r.ledger (hulls_of (table_of r))) i d
    hull_drafted = ap (λ (s : Place H). s.hull) is ∙ (sym (hulls_at p i left h d) ∙ ap (λ l. get_or l i d) (ap hulls_of e ∙ hulls_slice (table_of r) r.ledger.base r.ledger.used))

    hull_stored : left.hull ≡ get_or (hulls_of (table_of r)) (place_of (book_of r) i) d
    unfolding slice
    hull_stored =
        let hs = hulls_of (table_of r) in
        let b = r.ledger.base in
        hull_drafted ∙ (get_or-take (r.ledger.used - b) (drop b hs) i d (omega (arith, page_count)) ∙ (get_or-drop b hs i d ∙ ap (λ n. get_or hs n d) (sym (item_place r i))))

  -- the tie with its hull
  module _ (i k : ℕ) (left : Place H) (h : i < length p) (is : left ≡ get_or p i left) (hull : H) (made : hull ≡ fold kind.grown left.hull (corners (tree (items_of p) k))) where
    pub hull_grown : GrownFrom kind.begun kind.grown (corners (tree_of (trees (drafted r.ledger (items_of (table_of r)))) (item.Tie i k))) hull
    hull_grown =
        let q = drafted r.ledger (items_of (table_of r)) in
        let hs = drafted r.ledger (hulls_of (table_of r)) in
        let eq : hull ≡ fold kind.grown (get_or hs i hull) (corners (tree q k)) = made ∙ (ap (λ a. fold kind.grown a (corners (tree (items_of p) k))) (hull_drafted i left h is hull) ∙ ap (λ s. fold kind.grown (get_or hs i hull) (corners (tree s k))) page_items) in
        let m = from_tie kind.begun kind.grown q hs i k hull r.grown.page (omega (arith, ap length page_items, length_items p)) in
        subst (λ a. GrownFrom kind.begun kind.grown (corners (tree_of (trees q) (item.Tie i k))) a) (sym eq) m

    pub tie_stands : (x y : ℤ) → FreeParts (items_of p) x y i k → (n : ℕ) → n ≡ height_of_tie (items_of p) i k → (tie : Place H) → tie ≡ record { item = item.Tie i k; height = n; tied = false; hull = hull } → Joining r i k tie → (t : List (Place H))
        → Joined (table_of r) t (r.ledger.base + i) (r.ledger.base + k) r.ledger.used tie → TieStands kind.grown (nat_abs x) (nat_abs y) (book_of r) (table_of r) t
    tie_stands x y f n en tie et j t w d =
        let q = written (book_of r).page in
        let s = get_or (hulls_of (table_of r)) (place_of (book_of r) i) d in
        let ep = page_book j.drafting in
        let es = hull_stored i left h is d in
        let same : tie ≡ tie_place kind.grown q s i k = cc in
        rw (f.x_is, f.y_is) (joined_after r i k tie j t w (tie_place kind.grown q s i k) same)
