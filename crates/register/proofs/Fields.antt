-- A register's table field by field, and its invariant as one record.
use Rattle.std.proofs.Common.{◌≡◌, ℕ, ◌<◌, min, Bool, List, length, get_or, set, arith}
use Rattle.std.proofs.lemmas.List.{length-map, map-set, get_or-map}
use Rattle.hull.specs.declared.kind.Hull as hull
use Rattle.book.specs.declared.item.Item.{Item}
use Rattle.book.specs.declared.ledger.Ledger.{Ledger}
use Rattle.book.specs.Limits.{place_limit}
use Rattle.book.specs.Books.{stored}
use Rattle.book.specs.Hulls.{GrownOver}
use Rattle.book.specs.Ledgers.{slice, Placed, Counted, Kept, Drafted}
use Rattle.book.proofs.Slices.{slice_map}
use Rattle.book.proofs.LedgerLaws.{Sound, stored_is}
use Rattle.register.specs.declared.place.Place.{Place}
use Rattle.register.specs.declared.register.Register.{Register}
use Rattle.register.specs.Tables.{items_of, heights_of, tieds_of, hulls_of}
use Rattle.register.specs.Registers.{book_of}

module _ {H : Type 0} (t : List (Place H)) where
  pub length_items : length (items_of t) ≡ length t
  unfolding items_of
  length_items = length-map t _

  pub length_heights : length (heights_of t) ≡ length t
  unfolding heights_of
  length_heights = length-map t _

  pub length_tieds : length (tieds_of t) ≡ length t
  unfolding tieds_of
  length_tieds = length-map t _

  pub length_hulls : length (hulls_of t) ≡ length t
  unfolding hulls_of
  length_hulls = length-map t _

  module _ (i : ℕ) (p : Place H) where
    pub items_set : items_of (set t i p) ≡ set (items_of t) i p.item
    unfolding items_of
    items_set = map-set _ t i p

    pub heights_set : heights_of (set t i p) ≡ set (heights_of t) i p.height
    unfolding heights_of
    heights_set = map-set _ t i p

    pub tieds_set : tieds_of (set t i p) ≡ set (tieds_of t) i p.tied
    unfolding tieds_of
    tieds_set = map-set _ t i p

    pub hulls_set : hulls_of (set t i p) ≡ set (hulls_of t) i p.hull
    unfolding hulls_of
    hulls_set = map-set _ t i p

  module _ (b u : ℕ) where
    pub items_slice : items_of (slice b u t) ≡ slice b u (items_of t)
    unfolding items_of
    items_slice = slice_map t b u _

    pub heights_slice : heights_of (slice b u t) ≡ slice b u (heights_of t)
    unfolding heights_of
    heights_slice = slice_map t b u _

    pub tieds_slice : tieds_of (slice b u t) ≡ slice b u (tieds_of t)
    unfolding tieds_of
    tieds_slice = slice_map t b u _

    pub hulls_slice : hulls_of (slice b u t) ≡ slice b u (hulls_of t)
    unfolding hulls_of
    hulls_slice = slice_map t b u _

  module _ (i : ℕ) (d : Place H) (h : i < length t) where
    pub items_at : (e : Item) → get_or (items_of t) i e ≡ (get_or t i d).item
    unfolding items_of
    items_at e = get_or-map _ t i d e h

    pub heights_at : (e : ℕ) → get_or (heights_of t) i e ≡ (get_or t i d).height
    unfolding heights_of
    heights_at e = get_or-map _ t i d e h

    pub tieds_at : (e : Bool) → get_or (tieds_of t) i e ≡ (get_or t i d).tied
    unfolding tieds_of
    tieds_at e = get_or-map _ t i d e h

    pub hulls_at : (e : H) → get_or (hulls_of t) i e ≡ (get_or t i d).hull
    unfolding hulls_of
    hulls_at e = get_or-map _ t i d e h

-- the invariant, gathered and spread
abbrev pub Alone : Ledger → ℕ → Type 0
Alone l n = (l.first ≡ 0) × (l.end ≡ min n place_limit)

abbrev pub Ghosts : {H : Type 0} → hull.Ghosts H → Ledger → List (Place H) → Type 0
Ghosts kind l t = record {
  placed : Placed l (length t);
  counted : Counted l;
  kept : Kept l (items_of t);
  paged : Drafted l (items_of t) (heights_of t) (tieds_of t);
  alone : Alone l (length t);
  grown : GrownOver kind.begun kind.grown l (items_of t) (hulls_of t);
}

pub spread : {H : Type 0} (kind : hull.Ghosts H) (l : Ledger) (t : List (Place H)) → Sound l (length t) (items_of t) (heights_of t) (tieds_of t) → Alone l (length t) → GrownOver kind.begun kind.grown l (items_of t) (hulls_of t) → Ghosts kind l t
spread kind l t s a g = record { placed = s.placed; counted = s.counted; kept = s.kept; paged = s.paged; alone = a; grown = g }

module _ {H : Type 0} {kind : hull.Ghosts H} (r : Register H kind) where
  abbrev pub table_of : List (Place H)
  table_of = r.table.now

  pub sound : Sound r.ledger (length table_of) (items_of table_of) (heights_of table_of) (tieds_of table_of)
  sound = record { placed = r.placed; counted = r.counted; kept = r.kept; paged = r.paged }

  pub stored_place : stored (book_of r) ≡ r.ledger.used
  unfolding book_of
  stored_place = omega (arith, stored_is r.ledger (length table_of) (items_of table_of) (heights_of table_of) (tieds_of table_of) sound (length_items table_of), r.alone.0)

-- the same where the table's fields are known
pub sound_as : {H : Type 0} (l : Ledger) (n : ℕ) (items : List Item) (hs : List ℕ) (ts : List Bool) (t : List (Place H)) → length t ≡ n → items_of t ≡ items → heights_of t ≡ hs → tieds_of t ≡ ts
    → Sound l n items hs ts → Sound l (length t) (items_of t) (heights_of t) (tieds_of t)
sound_as l n items hs ts t en ei eh et s = rw (en, ei, eh, et) s
