-- The book that a ledger keeps over the items of a table, and what always holds of the two.
use Rattle.std.specs.Prelude.{◌≡◌, ℕ, ◌+◌, ◌-◌, ◌<◌, ◌≤◌, Bool, true, false, cond, List, map, length, take, Some, None, sum_by, slice_index_or, slice_range}
use Rattle.book.specs.declared.item.Item.{Item}
use Rattle.book.specs.declared.ledger.Span.{Span}
use Rattle.book.specs.declared.ledger.Ledger.{Ledger}
use Rattle.book.specs.Limits.{object_limit, place_limit}
use Rattle.book.specs.Trees.{flags, untied}
use Rattle.book.specs.Books.{Book}
use Rattle.book.specs.Pages.{sane, all_complete, heights}

-- what stands at these places
unfoldable pub slice : {X : Type 0} → ℕ → ℕ → List X → List X
slice from to xs = slice_range xs from to

-- what stands at the places of the draft
abbrev pub drafted : {X : Type 0} → Ledger → List X → List X
drafted l xs = slice l.base l.used xs

-- the items of each object
unfoldable pub objects : ℕ → List Span → List Item → List (List Item)
objects closed spans items = map (λ (s : Span). slice s.from s.to items) (take closed spans)

-- what stands at the places of each object
unfoldable pub objects_over : {X : Type 0} → ℕ → List Span → List X → List (List X)
objects_over closed spans xs = map (λ (s : Span). slice s.from s.to xs) (take closed spans)

-- the book
unfoldable pub book_over : Ledger → List Item → Book
book_over l items = record {
  mark = l.mark;
  capacity = l.end - l.first;
  page = cond l.drafting (Some (drafted l items)) None;
  objects = objects l.closed l.spans items;
}

-- the ledger with another page
abbrev pub repaged : Ledger → Bool → ℕ → ℕ → Ledger
repaged l drafting used loose = record { mark = l.mark; first = l.first; end = l.end; closed = l.closed; spans = l.spans; drafting = drafting; base = l.base; used = used; loose = loose }

-- objects, then the draft, lie within the stretch
abbrev pub Placed : Ledger → ℕ → Type 0
Placed l places = (l.first ≤ l.base) × (l.base ≤ l.used) × (l.used ≤ l.end) × (l.end ≤ places) × (l.end - l.first ≤ place_limit)

-- a draft is open only where one more object may be closed, and no item is on a page that is not open
abbrev pub Counted : Ledger → Type 0
Counted l = (l.closed ≤ object_limit) × (length l.spans ≡ object_limit) × (l.drafting ≡ true → l.closed < object_limit) × (l.drafting ≡ false → l.used ≡ l.base)

-- the objects fill the places before the draft, and each came of accepted calls
abbrev pub Kept : Ledger → List Item → Type 0
Kept l items =
    ((k : ℕ) (d : Span) → k < l.closed → (slice_index_or l.spans k d).to ≤ l.base)
    × (l.first + sum_by length (objects l.closed l.spans items) ≡ l.base)
    × (all_complete (objects l.closed l.spans items) ≡ true)

-- of a page: the heights and the flags are those of its items, so many of them are untied, and it came of accepted calls
abbrev pub Written : ℕ → List Item → List ℕ → List Bool → Type 0
Written loose page hs ts = (hs ≡ heights page) × (ts ≡ flags page) × (loose ≡ untied page) × (sane page ≡ true)

abbrev pub Drafted : Ledger → List Item → List ℕ → List Bool → Type 0
Drafted l items hs ts = Written l.loose (drafted l items) (drafted l hs) (drafted l ts)
