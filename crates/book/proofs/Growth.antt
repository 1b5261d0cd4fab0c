-- Stored hulls stay those that grow from the corner lists.
use Rattle.std.proofs.Common.{◌≡◌, ℕ, ◌+◌, ◌<◌, ◌≤◌, Bool, List, [], ◌∷◌, ◌++◌, length, get_or, set, fold, sym, ap, ◌∙◌, ⊎_elim, arith}
use Rattle.std.proofs.lemmas.List.Sums.{fold-append}
use Rattle.std.proofs.lemmas.List.{length_push, get_or_append_left, get_or_push, get_or-set_same, get_or-set_other}
use Rattle.std.proofs.lemmas.Bool.{cases_lt}
use Rattle.hull.specs.declared.corner.Corner.{Corner}
use Rattle.book.specs.declared.item.Item.{Item}
use Rattle.book.specs.declared.item.Item.TheVariants as item
use Rattle.book.specs.declared.ledger.Ledger.{Ledger}
use Rattle.book.specs.Limits.{object_limit}
use Rattle.book.specs.Trees.{trees, tree_of, tree, corners, no_tree}
use Rattle.book.specs.Ledgers.{slice, drafted, repaged}
use Rattle.book.specs.Hulls.{GrownFrom, GrownPage, GrownOver}
use Rattle.book.proofs.Slices.{slice_push, slice_kept, slice_none, length_slice}
use Rattle.book.proofs.Forest.{trees_push, length_trees}
use Rattle.book.proofs.LedgerLaws.{Sound, filed_away, page_span}

module _ {H : Type 0} (begun : Corner → H) (grown : H → Corner → H) where
  -- x's hull, grown over y's corners, is grown from the tie's corner list
  pub from_more : (h : H) (cs ds : List Corner) → GrownFrom begun grown cs h → GrownFrom begun grown (cs ++ ds) (fold grown h ds)
  from_more h [] ds m = absurd m
  from_more h (c ∷ cs) ds m = ap (λ a. fold grown a ds) m ∙ sym (fold-append grown (begun c) cs ds)

  pub from_tie : (page : List Item) (hs : List H) (x y : ℕ) (d : H) → GrownPage begun grown page hs → x < length page
      → GrownFrom begun grown (corners (tree_of (trees page) (item.Tie x y))) (fold grown (get_or hs x d) (corners (tree page y)))
  unfolding GrownPage
  from_tie page hs x y d g l = from_more (get_or hs x d) (corners (tree page x)) (corners (tree page y)) (g x d l)

  page_push : (page : List Item) (hs : List H) (e : Item) (h : H) → length hs ≡ length page → GrownPage begun grown page hs
      → GrownFrom begun grown (corners (tree_of (trees page) e)) h → GrownPage begun grown (page ++ e ∷ []) (hs ++ h ∷ [])
  unfolding GrownPage
  page_push page hs e h n g m i d l = ⊎_elim
      (λ (q : i < length page).
      rw (trees_push page e, get_or_append_left hs (h ∷ []) d i (omega arith), get_or_append_left (trees page) (tree_of (trees page) e ∷ []) no_tree i (omega (arith, length_trees page))) (g i d q))
      (λ (q : length page ≤ i).
      rw (trees_push page e, get_or_push hs h d i (omega (arith, length_push page e)), get_or_push (trees page) (tree_of (trees page) e) no_tree i (omega (arith, length_trees page, length_push page e))) m)
      (cases_lt i (length page))

  page_none : (b : ℕ) (items : List Item) (hs : List H) → GrownPage begun grown (slice b b items) (slice b b hs)
  unfolding GrownPage
  page_none b items hs i d l = absurd (omega (arith, ap length (slice_none items b)))

  module _ (l : Ledger) (items : List Item) (hs : List H) where
    pub grown_opened : l.closed ≡ 0 → l.used ≡ l.base → GrownOver begun grown l items hs
    grown_opened c u = record { page = rw u (page_none l.base items hs); object = λ k d h. absurd (omega arith) }

    module _ (g : GrownOver begun grown l items hs) where
      pub grown_cleared : (d : Bool) → GrownOver begun grown (repaged l d l.base 0) items hs
      grown_cleared d = record { page = page_none l.base items hs; object = g.object }

      pub grown_filed : length l.spans ≡ object_limit → l.closed < object_limit → GrownOver begun grown (filed_away l) items hs
      grown_filed n lt = record {
        page = page_none l.used items hs;
        object = λ k d h. ⊎_elim
            (λ (q : k < l.closed). let ne : k ≡ l.closed → ⊥ = λ z. omega arith in rw (get_or-set_other l.spans l.closed k (page_span l) d ne) (g.object k d q))
            (λ (q : l.closed ≤ k). let z : k ≡ l.closed = omega arith in rw (z, get_or-set_same l.spans l.closed (page_span l) d (omega arith)) g.page)
            (cases_lt k l.closed);
      }

      pub grown_pushed : (n loose : ℕ) (ns : List ℕ) (ts : List Bool) → Sound l n items ns ts → length items ≡ n → length hs ≡ n → (e : Item) (h : H) → l.used < l.end
          → GrownFrom begun grown (corners (tree_of (trees (drafted l items)) e)) h
          → GrownOver begun grown (repaged l l.drafting (l.used + 1) loose) (set items l.used e) (set hs l.used h)
      grown_pushed n loose ns ts s ni nh e h lt m =
          let a = slice_push items l.base l.used e s.placed.1 (omega (arith, s.placed)) in
          let b = slice_push hs l.base l.used h s.placed.1 (omega (arith, s.placed)) in
          let p = length_slice items l.base l.used (omega (arith, s.placed)) in
          let q = length_slice hs l.base l.used (omega (arith, s.placed)) in
          record {
            page = rw (a, b) (page_push _ _ e h (omega arith) g.page m);
            object = λ k d c.
                let le : (get_or l.spans k d).to ≤ l.used = omega (arith, s.kept.0 k d c, s.placed) in
                rw (slice_kept items (get_or l.spans k d).from (get_or l.spans k d).to l.used e le, slice_kept hs (get_or l.spans k d).from (get_or l.spans k d).to l.used h le) (g.object k d c);
          }
