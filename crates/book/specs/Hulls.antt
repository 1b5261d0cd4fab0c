-- Hulls that grow from corner lists.
use Rattle.std.specs.Prelude.{◌≡◌, ℕ, ◌<◌, List, [], ◌∷◌, length, fold, slice_index_or}
use Rattle.std.specs.Coded.{Coded, Coded-set, Π_prop}
use Rattle.hull.specs.declared.corner.Corner.{Corner}
use Rattle.book.specs.declared.item.Item.{Item}
use Rattle.book.specs.declared.ledger.Span.{Span}
use Rattle.book.specs.declared.ledger.Ledger.{Ledger}
use Rattle.book.specs.Trees.{tree, corners}
use Rattle.book.specs.Ledgers.{slice, drafted}

module _ {H : Type 0} (begun : Corner → H) (grown : H → Corner → H) where
  -- the hull is the one that grows from the corners in their order
  abbrev pub GrownFrom : List Corner → H → Type 0
  GrownFrom [] h = ⊥
  GrownFrom (p ∷ ps) h = h ≡ fold grown (begun p) ps

  -- each hull is the one that grows from its item's corner list
  unfoldable pub GrownPage : List Item → List H → Type 0
  GrownPage page hs = (i : ℕ) (d : H) → i < length page → GrownFrom (corners (tree page i)) (slice_index_or hs i d)

  -- so are the hulls of the draft and of every object
  pub record GrownOver (l : Ledger) (items : List Item) (hs : List H) : Type 0 where
    pub page : GrownPage (drafted l items) (drafted l hs)
    pub object : (k : ℕ) (d : Span) → k < l.closed → GrownPage (slice (slice_index_or l.spans k d).from (slice_index_or l.spans k d).to items) (slice (slice_index_or l.spans k d).from (slice_index_or l.spans k d).to hs)

  -- that has one proof at most, so the invariant of a type can say it
  module _ (code : Coded H) where
    from_prop : (cs : List Corner) (h : H) → IsProp (GrownFrom cs h)
    from_prop [] h = λ m. absurd m
    from_prop (p ∷ ps) h = Coded-set code h (fold grown (begun p) ps)

    page_prop : (page : List Item) (hs : List H) → IsProp (GrownPage page hs)
    unfolding GrownPage
    page_prop page hs = Π_prop (λ i. Π_prop (λ d. Π_prop (λ l. from_prop (corners (tree page i)) (slice_index_or hs i d))))

    pub GrownOver-prop : (l : Ledger) (items : List Item) (hs : List H) → IsProp (GrownOver l items hs)
    GrownOver-prop l items hs x y = λ i. record {
      page = page_prop (drafted l items) (drafted l hs) x.page y.page i;
      object = Π_prop (λ (k : ℕ). Π_prop (λ (d : Span). Π_prop (λ (q : k < l.closed). page_prop (slice (slice_index_or l.spans k d).from (slice_index_or l.spans k d).to items) (slice (slice_index_or l.spans k d).from (slice_index_or l.spans k d).to hs)))) x.object y.object i;
    }
