-- Which items are tied, and one more item on a page.
use Rattle.std.proofs.Common.{◌≡◌, ℕ, zero, suc, ◌+◌, ◌<◌, ◌≤◌, Bool, true, false, cond, not, ◌||◌, eqb, List, [], ◌∷◌, ◌++◌, length, get_or, take, set, sum_by, sym, refl, ap, ◌∙◌, subst, ⊎_elim, arith}
use Rattle.std.proofs.lemmas.List.{length_push, length-take-le, same_lists, get_or_append_left, get_or_push, get_or-take, get_or-set_same, get_or-set_other, length-set}
use Rattle.std.proofs.lemmas.List.Sums.{sum_by_push, sum_by-set, count_by-le-length}
use Rattle.std.proofs.lemmas.List.FromFn.{length-map-range_with_len, get_or-map-range_with_len}
use Rattle.std.proofs.lemmas.Bool.{cases_lt, cases_eq, cases_Bool, cases_order, or_cases, or_from, or_left, or_right, eq-eqb, ne_eqb, eqb-true, false≢true, both_ways}
use Rattle.book.specs.declared.item.Facet.{Facet}
use Rattle.book.specs.declared.item.Item.{Item}
use Rattle.book.specs.declared.item.Item.TheVariants as item
use Rattle.book.specs.Trees.{trees, tree_of, height, height_at, ties, tied, flags, untied, item_at, Part}
use Rattle.book.specs.Books.{height_of_tie}
use Rattle.book.specs.Pages.{allowed, sane}
use Rattle.book.specs.Ledgers.{Written}
use Rattle.book.proofs.Forest.{Joins, tie_allowed, sane_at, sane_push, heights_push}

pub tied_push : (p : List Item) (e : Item) (i : ℕ) → tied (p ++ e ∷ []) i ≡ (tied p i || ties e i)
unfolding tied
tied_push [] e i = elim (ties e i) as (λ v. (v || false) ≡ v) [ true ↦ refl | false ↦ refl ]
tied_push (f ∷ p) e i = elim (ties f i) as (λ v. (v || tied (p ++ e ∷ []) i) ≡ ((v || tied p i) || ties e i)) [ true ↦ refl | false ↦ tied_push p e i ]

-- an item is tied where it is a part of some tie
pub tied_part : (p : List Item) (i : ℕ) → tied p i ≡ true → (j : ℕ) × Part p i j
unfolding tied
tied_part [] i t = absurd (false≢true t)
tied_part (e ∷ p) i t = ⊎_elim
    (λ (a : ties e i ≡ true). (0, record { there = omega arith; part = a }))
    (λ (b : tied p i ≡ true). let q = tied_part p i b in (suc q.0, record { there = omega (arith, q.1.there); part = q.1.part }))
    (or_cases (ties e i) (tied p i) t)

part_tied : (p : List Item) (i j : ℕ) → j < length p → ties (item_at p j) i ≡ true → tied p i ≡ true
unfolding tied
part_tied [] i j h t = absurd (omega arith)
part_tied (e ∷ p) i zero h t = or_left (ties e i) (tied p i) t
part_tied (e ∷ p) i (suc j) h t = or_right (ties e i) (tied p i) (part_tied p i j (omega arith) t)

-- a part of an item that may come stands before it and is not tied yet
part_allowed : (p : List Item) (e : Item) (i : ℕ) → allowed p e ≡ true → ties e i ≡ true → (i < length p) × (tied p i ≡ false)
part_allowed p (item.Facet f) i a t = absurd (false≢true t)
part_allowed p (item.Tie x y) i a t =
    let j = (tie_allowed p x y a).0 in
    ⊎_elim
    (λ (s : eqb x i ≡ true). let e : x ≡ i = eqb-true x i s in subst (λ k. (k < length p) × (tied p k ≡ false)) e (j.x_in, j.x_free))
    (λ (s : eqb y i ≡ true). let e : y ≡ i = eqb-true y i s in subst (λ k. (k < length p) × (tied p k ≡ false)) e (j.y_in, j.y_free))
    (or_cases (eqb x i) (eqb y i) t)

module _ (p : List Item) (good : sane p ≡ true) where
  pub part_at : (i j : ℕ) → Part p i j → (i < j) × (tied (take j p) i ≡ false)
  part_at i j q =
      let n = length-take-le j p (omega (arith, q.there)) in
      let a = part_allowed (take j p) (item_at p j) i (sane_at p j _ good q.there) q.part in
      (omega (arith, a.0), a.1)

  pub none_past : (i : ℕ) → length p ≤ i → tied p i ≡ false
  none_past i h = ⊎_elim
      (λ (t : tied p i ≡ true). let q = tied_part p i t in absurd (omega (arith, (part_at i q.0 q.1).0, q.1.there)))
      (λ e. e)
      (cases_Bool (tied p i))

  -- of two ties with one part the second would find it tied
  later : (i j k : ℕ) → Part p i j → Part p i k → j < k → ⊥
  later i j k q r l =
      let n = length-take-le k p (omega (arith, r.there)) in
      let t : ties (item_at (take k p) j) i ≡ true = ap (λ e. ties e i) (get_or-take k p j _ l) ∙ q.part in
      both_ways (tied (take k p) i) (part_at i k r).1 (part_tied (take k p) i j (omega arith) t)

  pub part_once : (i j k : ℕ) → Part p i j → Part p i k → j ≡ k
  part_once i j k q r = ⊎_elim (λ e. e) (⊎_elim (λ l. absurd (later i j k q r l)) (λ l. absurd (later i k j r q l))) (cases_order j k)

pub length_flags : (p : List Item) → length (flags p) ≡ length p
unfolding flags
length_flags p = length-map-range_with_len (tied p) 0 (length p)

pub get_or_flags : (p : List Item) (i : ℕ) (d : Bool) → i < length p → get_or (flags p) i d ≡ tied p i
unfolding flags
get_or_flags p i d h = get_or-map-range_with_len (tied p) 0 (length p) i i d h (omega arith)

pub untied_le : (p : List Item) → untied p ≤ length p
unfolding untied
untied_le p = omega (arith, count_by-le-length not (flags p), length_flags p)

-- a facet is written
module _ (p : List Item) (f : Facet) (good : sane p ≡ true) where
  pub flags_facet : flags (p ++ item.Facet f ∷ []) ≡ flags p ++ false ∷ []
  flags_facet = same_lists _ _
      (omega (arith, length_flags (p ++ item.Facet f ∷ []), length_push p (item.Facet f), length_push (flags p) false, length_flags p))
      (λ k d h.
      let l : k < length p + 1 = omega (arith, length_flags (p ++ item.Facet f ∷ []), length_push p (item.Facet f)) in
      let t : tied (p ++ item.Facet f ∷ []) k ≡ tied p k = tied_push p (item.Facet f) k ∙ (elim (tied p k) as (λ v. (v || false) ≡ v) [ true ↦ refl | false ↦ refl ]) in
      get_or_flags (p ++ item.Facet f ∷ []) k d (omega (arith, length_push p (item.Facet f))) ∙ (t ∙ ⊎_elim
      (λ (q : k < length p). sym (get_or_append_left (flags p) (false ∷ []) d k (omega (arith, length_flags p)) ∙ get_or_flags p k d q))
      (λ (q : length p ≤ k). none_past p good k q ∙ sym (get_or_push (flags p) false d k (omega (arith, length_flags p))))
      (cases_lt k (length p))))

  untied_facet : untied (p ++ item.Facet f ∷ []) ≡ untied p + 1
  unfolding untied
  untied_facet = rw flags_facet (sum_by_push (λ b. cond (not b) 1 0) (flags p) false)

  pub written_facet : (loose : ℕ) (hs : List ℕ) (ts : List Bool) → Written loose p hs ts → Written (loose + 1) (p ++ item.Facet f ∷ []) (hs ++ 0 ∷ []) (ts ++ false ∷ [])
  written_facet loose hs ts ok = (
    ap (λ l. l ++ 0 ∷ []) ok.0 ∙ sym (heights_push p (item.Facet f)),
    ap (λ l. l ++ false ∷ []) ok.1 ∙ sym flags_facet,
    omega (arith, untied_facet, ok.2),
    sane_push p (item.Facet f) good refl,
  )

-- two flags are set
module _ (p : List Item) (x y : ℕ) (j : Joins p x y) where
  abbrev bound : List Bool
  bound = set (set (flags p) x true) y true

  abbrev count : List Bool → ℕ
  count ts = sum_by (λ b. cond (not b) 1 0) ts

  length_bound : length bound ≡ length p
  length_bound = length-set (set (flags p) x true) y true ∙ (length-set (flags p) x true ∙ length_flags p)

  count_bound : count bound + 2 ≡ untied p
  unfolding untied
  count_bound =
      let n = length_flags p in
      let g : Bool → ℕ = λ b. cond (not b) 1 0 in
      let fx : get_or (flags p) x false ≡ false = get_or_flags p x false j.x_in ∙ j.x_free in
      let fy : get_or (set (flags p) x true) y false ≡ false = get_or-set_other (flags p) x y true false (λ e. j.differ (sym e)) ∙ (get_or_flags p y false j.y_in ∙ j.y_free) in
      let ex : count (set (flags p) x true) + 1 ≡ count (flags p) + 0 = subst (λ v. count (set (flags p) x true) + g v ≡ count (flags p) + 0) fx (sum_by-set g (flags p) x true false (omega (arith, j.x_in))) in
      let ey : count bound + 1 ≡ count (set (flags p) x true) + 0 = subst (λ v. count bound + g v ≡ count (set (flags p) x true) + 0) fy (sum_by-set g (set (flags p) x true) y true false (omega (arith, j.y_in, length-set (flags p) x true))) in
      omega (arith, ex, ey)

  pub untied_two : 2 ≤ untied p
  untied_two = omega (arith, count_bound)

  bound_at : (k : ℕ) (d : Bool) → k < length p → tied (p ++ item.Tie x y ∷ []) k ≡ get_or bound k d
  bound_at k d h =
      let nx = length-set (flags p) x true in
      let n = length_flags p in
      tied_push p (item.Tie x y) k ∙ ⊎_elim
      (λ (e : k ≡ y). or_right (tied p k) _ (or_right (eqb x k) _ (eq-eqb y k (sym e))) ∙ sym (ap (λ i. get_or bound i d) e ∙ get_or-set_same (set (flags p) x true) y true d (omega (arith, j.y_in))))
      (λ (ne : k ≡ y → ⊥). ⊎_elim
      (λ (e : k ≡ x). or_right (tied p k) _ (or_left _ (eqb y k) (eq-eqb x k (sym e))) ∙ sym (get_or-set_other (set (flags p) x true) y k true d ne ∙ (ap (λ i. get_or (set (flags p) x true) i d) e ∙ get_or-set_same (flags p) x true d (omega (arith, j.x_in)))))
      (λ (ni : k ≡ x → ⊥).
      ap (λ v. tied p k || v) (or_from _ _ (ne_eqb x k (λ e. ni (sym e))) (ne_eqb y k (λ e. ne (sym e))))
      ∙ ((elim (tied p k) as (λ v. (v || false) ≡ v) [ true ↦ refl | false ↦ refl ])
      ∙ sym (get_or-set_other (set (flags p) x true) y k true d ne ∙ (get_or-set_other (flags p) x k true d ni ∙ get_or_flags p k d h))))
      (cases_eq k x))
      (cases_eq k y)

-- a tie is written
module _ (p : List Item) (x y : ℕ) (good : sane p ≡ true) (ok : allowed p (item.Tie x y) ≡ true) where
  abbrev both : Joins p x y
  both = (tie_allowed p x y ok).0

  pub flags_tie : flags (p ++ item.Tie x y ∷ []) ≡ bound p x y both ++ false ∷ []
  flags_tie =
      let w = both in
      let a = length_flags (p ++ item.Tie x y ∷ []) in
      let b = length_push p (item.Tie x y) in
      let s = bound p x y both in
      let m = length_bound p x y both in
      same_lists _ _ (omega (arith, length_push s false))
      (λ k d h. get_or_flags (p ++ item.Tie x y ∷ []) k d (omega arith) ∙ ⊎_elim
      (λ (q : k < length p). bound_at p x y both k d q ∙ sym (get_or_append_left s (false ∷ []) d k (omega arith)))
      (λ (q : length p ≤ k).
      let z : k ≡ length p = omega arith in
      tied_push p (item.Tie x y) k ∙ (or_from _ _ (none_past p good k q) (or_from _ _ (ne_eqb x k (λ (e : x ≡ k). omega (arith, w.x_in))) (ne_eqb y k (λ (e : y ≡ k). omega (arith, w.y_in)))) ∙ sym (get_or_push s false d k (omega arith))))
      (cases_lt k (length p)))

  untied_tie : untied (p ++ item.Tie x y ∷ []) + 1 ≡ untied p
  unfolding untied
  untied_tie =
      let g : Bool → ℕ = λ b. cond (not b) 1 0 in
      let e : sum_by g (flags (p ++ item.Tie x y ∷ [])) ≡ sum_by g (bound p x y both) + 1 = ap (sum_by g) flags_tie ∙ sum_by_push g (bound p x y both) false in
      omega (arith, e, count_bound p x y both)

  pub written_tie : (loose : ℕ) (hs : List ℕ) (ts : List Bool) → Written (loose + 1) p hs ts
      → Written loose (p ++ item.Tie x y ∷ []) (hs ++ height_of_tie p x y ∷ []) (set (set ts x true) y true ++ false ∷ [])
  unfolding height_of_tie height_at
  written_tie loose hs ts w = (
    ap (λ q. q ++ height (tree_of (trees p) (item.Tie x y)) ∷ []) w.0 ∙ sym (heights_push p (item.Tie x y)),
    ap (λ q. set (set q x true) y true ++ false ∷ []) w.1 ∙ sym flags_tie,
    omega (arith, untied_tie, w.2),
    sane_push p (item.Tie x y) good ok,
  )
