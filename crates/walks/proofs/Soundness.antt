-- The list of a comparison is complete, tight and, for kinds with faces, exact.
use Rattle.std.proofs.Common.{◌≡◌, ℕ, suc, ◌-◌, ◌<◌, true, List, [], ◌∷◌, ◌++◌, length, ℤ, fold, sym, ap, ◌∙◌, subst, subst₂, ⊎_elim, append_assoc, arith}
use mathlib.Core.List.{Memᴰ}
use Rattle.std.specs.List.{ContainsAt as Has, AllByRecursion}
use Rattle.std.proofs.ByRecursion.{all_has_itself, All-weaker, has_append_left, has_append_right}
use Rattle.std.proofs.lemmas.List.{append-nil}
use Rattle.hull.specs.declared.corner.Corner.{Corner}
use Rattle.hull.specs.declared.direction.Direction.{Direction}
use Rattle.hull.specs.Measures.{Spread, Covers, Rounds}
use Rattle.hull.specs.Measures as measure
use Rattle.placement.specs.declared.parts.Placement.{Placement}
use Rattle.pairs.specs.Gaps.{Parted}
use Rattle.pairs.specs.Facets.{SharesPoint}
use Rattle.pairs.specs.Claims.{TouchingUnparted, UnpartedNear, PartedUnrounded, UnpartedUnroundedNear}
use Rattle.pairs.proofs.PairLaws.{touching_unparted, unparted_near, parted_unrounded, unparted_unrounded_near}
use Rattle.book.specs.declared.item.Facet.{Facet}
use Rattle.book.specs.declared.item.Item.{Item}
use Rattle.book.specs.declared.item.Item.TheVariants as item
use Rattle.book.specs.Facets.{corners_of}
use Rattle.book.specs.Pages.{sane}
use Rattle.book.specs.Trees.{Tree, leaf, node, corners, tree, Under, Whole, number}
use Rattle.walks.specs.Walks.{Walk}
use Rattle.walks.specs.Comparisons.{IsFacet, triangle, hull_over, PartedItems, Complete, Tight, PartedAbove, Exact}
use Rattle.walks.proofs.Inside.{Inside, Separate}
use Rattle.walks.proofs.Inside as in_tree
use Rattle.walks.proofs.Listings.{listed_or_parted, listed_facets}
use Rattle.walks.proofs.Listings as listing
use Rattle.walks.proofs.Once.{walk_once}
use Rattle.walks.proofs.Objects.{Kind, facet, tie, kind_of, number_is, inside_found, inside_under, separate}

-- a facet of an object stands inside the tree of its last item
module _ (o : List Item) (good : sane o ≡ true) (whole : Whole o) where
  abbrev pub root : Tree
  root = tree o (length o - 1)

  last_in : (m : ℕ) → m < length o → length o - 1 < length o
  last_in m h = omega arith

  facet_tree : (m : ℕ) (f : Facet) → IsFacet o m f → tree o m ≡ leaf m f
  facet_tree m f i = by (kind_of o good m i.there)
    where
      by : Kind o good m → tree o m ≡ leaf m f
      by (facet g e t) = t ∙ ap (leaf m) (let z = sym e ∙ i.is in cc)
      by (tie x y e t a b d) = absurd (let z = sym e ∙ i.is in let w : ◌≡◌ {A = ℕ} 0 1 = cc in omega arith)

  facet_inside : (m : ℕ) (f : Facet) → IsFacet o m f → Inside (leaf m f) root
  facet_inside m f i = subst (λ (t : Tree). Inside t root) (facet_tree m f i) (inside_under o good (last_in m i.there) (whole.under m i.there))

  -- and a leaf inside a tree is a facet under its item
  leaf_under : (i m : ℕ) (f : Facet) → i < length o → Inside (leaf m f) (tree o i) → IsFacet o m f × Under o m i
  leaf_under i m f h w =
      let p = inside_found o good (suc i) i (omega arith) h (leaf m f) w in
      let k : p.at ≡ m = sym (ap number p.is ∙ number_is o good p.at p.there) in
      (is_facet p.at p.there p.is k, subst (λ (n : ℕ). Under o n i) k p.under)
    where
      is_facet : (n : ℕ) → n < length o → leaf m f ≡ tree o n → n ≡ m → IsFacet o m f
      is_facet n l e z = by (kind_of o good n l)
        where
          sym_facet : {g : Facet} → leaf m f ≡ leaf n g → g ≡ f
          sym_facet w = cc

          by : Kind o good n → IsFacet o m f
          by (facet g q t) = subst (λ (k : ℕ). IsFacet o k f) z (record { there = l; is = q ∙ ap (λ (h : Facet). item.Facet h) (let w = e ∙ t in sym_facet w) })
          by (tie x y q t a b d) = absurd (let w = e ∙ t in let v : ◌≡◌ {A = ℕ} 0 1 = cc in omega arith)

-- the corners of a leaf inside a tree are among those of the tree
corners_inside : {m : ℕ} {e : Facet} {t : Tree} → Inside (leaf m e) t → AllByRecursion (Has (corners t)) (corners_of e)
corners_inside {e = e} (in_tree.itself h) = subst (λ (t : Tree). AllByRecursion (Has (corners t)) (corners_of e)) h (all_has_itself (corners_of e))
corners_inside {e = e} (in_tree.first {x = x} {y = y} w) = All-weaker (Has (corners x)) (Has (corners x ++ corners y)) (λ v i. has_append_left (corners x) (corners y) v i) (corners_of e) (corners_inside w)
corners_inside {e = e} (in_tree.second {x = x} {y = y} w) = All-weaker (Has (corners y)) (Has (corners x ++ corners y)) (λ v i. has_append_right (corners x) (corners y) v i) (corners_of e) (corners_inside w)

-- ---- over a kind, by its rules of fit and its laws
module _ {H : Type 0} (begun : Corner → H) (grown : H → Corner → H) (reaches : H → Direction → ℤ) (fits : H → List Corner → Type 0)
    (one : (p : Corner) → fits (begun p) (p ∷ [])) (another : (h : H) (c : List Corner) (p : Corner) → fits h c → fits (grown h p) (c ++ p ∷ [])) where
  fits_more : (h : H) (c d : List Corner) → fits h c → fits (fold grown h d) (c ++ d)
  fits_more h c [] f = subst (fits h) (sym (append-nil c)) f
  fits_more h c (p ∷ d) f = subst (fits (fold grown (grown h p) d)) (append_assoc c (p ∷ []) d) (fits_more (grown h p) (c ++ p ∷ []) d (another h c p f))

  -- an item's hull fits its corner list
  fits_tree : (t : Tree) → fits (hull_over begun grown reaches t) (corners t)
  fits_tree (leaf n f) = another _ _ f.c (another _ _ f.b (one f.a))
  fits_tree (node n t u) = fits_more (hull_over begun grown reaches t) (corners t) (corners u) (fits_tree t)

  module _ (covers : (h : H) (c : List Corner) (u : Direction) → fits h c → Covers (reaches h u) u c) (tight : (h : H) (c : List Corner) (u : Direction) (s : ℕ) → fits h c → Spread s c → measure.Tight (reaches h u) u s c)
      (o q : List Item) (good_o : sane o ≡ true) (good_q : sane q ≡ true) (whole_o : Whole o) (whole_q : Whole q) (p : Placement) {pairs : List (ℕ × ℕ)} {tests : ℕ} (walk : Walk (PartedItems begun grown reaches p) (root o good_o whole_o) (root q good_q whole_q) pairs tests) where
    abbrev hull : Tree → H
    hull = hull_over begun grown reaches

    -- the claims of one pair of hulls, at the hulls of two items
    touching : (t u : Tree) → TouchingUnparted p (fits (hull t)) (fits (hull u)) (PartedItems begun grown reaches p t u)
    touching t u = touching_unparted p (fits (hull t)) (fits (hull u)) (reaches (hull t)) (reaches (hull u)) (covers (hull t)) (covers (hull u)) (PartedItems begun grown reaches p t u) (λ k. k)

    unparted : (t u : Tree) → UnpartedNear p (fits (hull t)) (fits (hull u)) (PartedItems begun grown reaches p t u)
    unparted t u = unparted_near p (fits (hull t)) (fits (hull u)) (reaches (hull t)) (reaches (hull u)) (tight (hull t)) (tight (hull u)) (PartedItems begun grown reaches p t u) (λ k. k)

    shared : (m n : ℕ) (e f : Facet) → IsFacet o m e → IsFacet q n f → SharesPoint p (triangle e) (triangle f) → Memᴰ (m, n) pairs
    unfolding TouchingUnparted
    shared m n e f i j s = ⊎_elim (λ l. l)
        (λ r. absurd (touching r.above r.above' (corners r.above) (corners r.above') (fits_tree r.above) (fits_tree r.above') (triangle e) (triangle f) (corners_inside r.over_moved) (corners_inside r.over_standing) s r.parts))
        (listed_or_parted (PartedItems begun grown reaches p) walk (facet_inside o good_o whole_o m e i) (facet_inside q good_q whole_q n f j))

    last_sep : (o : List Item) (good : sane o ≡ true) (m : ℕ) → m < length o → Separate (tree o (length o - 1))
    last_sep o good m h = separate o good (length o) (length o - 1) (omega arith) (omega arith)

    pub complete : 0 < length o → 0 < length q → Complete o q p pairs
    complete lo lq = record { shared = shared; once = walk_once (PartedItems begun grown reaches p) walk (last_sep o good_o 0 lo) (last_sep q good_q 0 lq) }

    -- a listed pair, as facets of the two objects
    listed : 0 < length o → 0 < length q → (m n : ℕ) → Memᴰ (m, n) pairs → (e : Facet) × (f : Facet) × IsFacet o m e × IsFacet q n f × (PartedItems begun grown reaches p (leaf m e) (leaf n f) → ⊥)
    listed lo lq m n l =
        let r = listed_facets (PartedItems begun grown reaches p) walk l in
        (r.moved, r.standing, (leaf_under o good_o whole_o (length o - 1) m r.moved (omega arith) r.in_moved).0, (leaf_under q good_q whole_q (length q - 1) n r.standing (omega arith) r.in_standing).0, r.unparted)

    one_facet : (o : List Item) (m : ℕ) (e f : Facet) → IsFacet o m e → IsFacet o m f → e ≡ f
    one_facet o m e f i j = let z = sym i.is ∙ j.is in cc

    -- no axis parts the hulls of a listed pair
    listed_unparted : 0 < length o → 0 < length q → (m n : ℕ) (e f : Facet) → Memᴰ (m, n) pairs → IsFacet o m e → IsFacet q n f → PartedItems begun grown reaches p (leaf m e) (leaf n f) → ⊥
    listed_unparted lo lq m n e f l i j =
        let r = listed lo lq m n l in
        subst₂ (λ (e f : Facet). PartedItems begun grown reaches p (leaf m e) (leaf n f) → ⊥) (one_facet o m r.0 e r.2 i) (one_facet q n r.1 f r.3 j) r.4

    pub near : 0 < length o → 0 < length q → Tight o q p pairs
    unfolding UnpartedNear
    near lo lq = record {
      facets = λ m n l. let r = listed lo lq m n l in (r.0, r.1, r.2, r.3);
      near = λ m n e f l i j s t a b. unparted (leaf m e) (leaf n f) (corners_of e) (corners_of f) s t (fits_tree (leaf m e)) (fits_tree (leaf n f)) a b (listed_unparted lo lq m n e f l i j);
    }

    -- a kind with unrounded reaches
    module _ (faced : Type 0) (unrounded : List Corner → Direction → ℤ) (rounds : (h : H) (c : List Corner) (u : Direction) → faced → fits h c → Rounds (reaches h u) (unrounded c u) u) (has : faced) (lo : 0 < length o) (lq : 0 < length q) where
      above : (m n : ℕ) (e f : Facet) → listing.PartedAbove (PartedItems begun grown reaches p) (leaf m e) (leaf n f) (root o good_o whole_o) (root q good_q whole_q) → PartedAbove o q p pairs unrounded m n
      unfolding Parted PartedUnrounded
      above m n e f r =
          let a = inside_found o good_o (length o) (length o - 1) (omega arith) (omega arith) r.above r.in_moved in
          let b = inside_found q good_q (length q) (length q - 1) (omega arith) (omega arith) r.above' r.in_standing in
          let x = leaf_under o good_o whole_o a.at m e a.there (subst (Inside (leaf m e)) a.is r.over_moved) in
          let y = leaf_under q good_q whole_q b.at n f b.there (subst (Inside (leaf n f)) b.is r.over_standing) in
          let k = subst₂ (PartedItems begun grown reaches p) a.is b.is r.parts in
          record {
            i = a.at;
            j = b.at;
            above_m = x.1;
            above_n = y.1;
            axis = k.0;
            its = k.1;
            parts = parted_unrounded p (fits (hull (tree o a.at))) (fits (hull (tree q b.at))) (reaches (hull (tree o a.at))) (reaches (hull (tree q b.at))) faced unrounded (rounds (hull (tree o a.at))) (rounds (hull (tree q b.at))) has (corners (tree o a.at)) (corners (tree q b.at)) (fits_tree (tree o a.at)) (fits_tree (tree q b.at)) k.0 k.2;
          }

      pub exact : Exact o q p pairs unrounded
      unfolding UnpartedUnroundedNear
      exact = record {
        left_out = λ m n e f i j no. ⊎_elim (λ l. absurd (no l)) (above m n e f) (listed_or_parted (PartedItems begun grown reaches p) walk (facet_inside o good_o whole_o m e i) (facet_inside q good_q whole_q n f j));
        close = λ m n e f l i j.
            unparted_unrounded_near p (fits (hull (leaf m e))) (fits (hull (leaf n f))) (reaches (hull (leaf m e))) (reaches (hull (leaf n f))) faced unrounded (rounds (hull (leaf m e))) (rounds (hull (leaf n f))) (PartedItems begun grown reaches p (leaf m e) (leaf n f)) (λ k. k) has (corners_of e) (corners_of f) (fits_tree (leaf m e)) (fits_tree (leaf n f)) (listed_unparted lo lq m n e f l i j);
      }
