-- An object's last item has no more items under it than the object has.
use Rattle.std.proofs.Common.{◌≡◌, ℕ, zero, suc, ◌+◌, ◌-◌, ◌<◌, ◌≤◌, Bool, true, false, cond, List, [], ◌∷◌, ◌++◌, map, length, get_or, set, sym, refl, ap, ◌∙◌, subst, ap₂, le_of_suc-le-suc, arith}
use Rattle.std.proofs.lemmas.List.{length-set, length-map, get_or-map, get_or-set_other, map_push, length_push, append-nil, append_assoc}
use Rattle.std.proofs.lemmas.Bool.{and_parts}
use Rattle.book.specs.declared.item.Item.{Item}
use Rattle.book.specs.declared.item.Item.TheVariants as item
use Rattle.book.specs.Pages.{allowed, goes_on, sane}
use Rattle.book.specs.Trees.{tree, trees, tree_of, no_tree, flags, tied}
use Rattle.book.proofs.Forest.{trees_push, length_trees, tie_allowed, sane_push}
use Rattle.book.proofs.Flags.{length_flags, get_or_flags, flags_facet, flags_tie, tied_part, part_at}
use Rattle.walks.proofs.Inside.{items}

-- the sum of the numbers whose flag is not set
abbrev free : List Bool → List ℕ → ℕ
free [] ns = 0
free (b ∷ bs) [] = 0
free (b ∷ bs) (n ∷ ns) = cond b 0 n + free bs ns

free_set : (bs : List Bool) (ns : List ℕ) (x : ℕ) → x < length bs → length bs ≡ length ns → get_or bs x false ≡ false → free (set bs x true) ns + get_or ns x 0 ≡ free bs ns
free_set [] ns x h e f = absurd (omega arith)
free_set (b ∷ bs) [] x h e f = absurd (omega arith)
free_set (b ∷ bs) (n ∷ ns) zero h e f = let k = ap (λ (t : Bool). cond t 0 n) f in omega arith
free_set (b ∷ bs) (n ∷ ns) (suc x) h e f = let k = free_set bs ns x (le_of_suc-le-suc h) (omega arith) f in omega arith

free_push : (bs : List Bool) (ns : List ℕ) (n : ℕ) → length bs ≡ length ns → free (bs ++ false ∷ []) (ns ++ n ∷ []) ≡ free bs ns + n
free_push [] [] n e = omega arith
free_push [] (m ∷ ns) n e = absurd (omega arith)
free_push (b ∷ bs) [] n e = absurd (omega arith)
free_push (b ∷ bs) (m ∷ ns) n e = let k = free_push bs ns n (omega arith) in omega arith

free_at : (bs : List Bool) (ns : List ℕ) (x : ℕ) → x < length bs → length bs ≡ length ns → get_or bs x false ≡ false → get_or ns x 0 ≤ free bs ns
free_at bs ns x h e f = let k = free_set bs ns x h e f in omega arith

sizes : List Item → List ℕ
sizes p = map items (trees p)

length_sizes : (p : List Item) → length (sizes p) ≡ length p
unfolding sizes
length_sizes p = length-map (trees p) items ∙ length_trees p

size_at : (p : List Item) (i : ℕ) → i < length p → get_or (sizes p) i 0 ≡ items (tree p i)
unfolding sizes
size_at p i h = get_or-map items (trees p) i no_tree 0 (omega (arith, length_trees p))

sizes_push : (p : List Item) (e : Item) → sizes (p ++ e ∷ []) ≡ sizes p ++ items (tree_of (trees p) e) ∷ []
unfolding sizes
sizes_push p e = ap (map items) (trees_push p e) ∙ map_push items (trees p) (tree_of (trees p) e)

-- the untied items have all items under them, each once
held : (p : List Item) → free (flags p) (sizes p) ≡ length p → (e : Item) → sane p ≡ true → allowed p e ≡ true → free (flags (p ++ e ∷ [])) (sizes (p ++ e ∷ [])) ≡ length (p ++ e ∷ [])
held p k (item.Facet f) good ok =
    ap₂ free (flags_facet p f good) (sizes_push p (item.Facet f)) ∙ free_push (flags p) (sizes p) 1 (omega (arith, length_flags p, length_sizes p)) ∙ omega (arith, k, length_push p (item.Facet f))
held p k (item.Tie x y) good ok =
    let j = (tie_allowed p x y ok).0 in
    let fs = flags p in
    let n = length_flags p in
    let m = length_sizes p in
    let a = free_set fs (sizes p) x (omega (arith, j.x_in)) (omega arith) (get_or_flags p x false j.x_in ∙ j.x_free) in
    let b = free_set (set fs x true) (sizes p) y (omega (arith, j.y_in, length-set fs x true)) (omega (arith, length-set fs x true)) (get_or-set_other fs x y true false (λ e. j.differ (sym e)) ∙ (get_or_flags p y false j.y_in ∙ j.y_free)) in
    ap₂ free (flags_tie p x y good ok) (sizes_push p (item.Tie x y))
    ∙ free_push (set (set fs x true) y true) (sizes p) (1 + (items (tree p x) + items (tree p y))) (omega (arith, length-set (set fs x true) y true, length-set fs x true))
    ∙ omega (arith, a, b, k, size_at p x j.x_in, size_at p y j.y_in, length_push p (item.Tie x y))

all_held : (p q : List Item) → sane p ≡ true → goes_on p q ≡ true → free (flags p) (sizes p) ≡ length p → free (flags (p ++ q)) (sizes (p ++ q)) ≡ length (p ++ q)
unfolding goes_on
all_held p [] good ok k = subst (λ (r : List Item). free (flags r) (sizes r) ≡ length r) (sym (append-nil p)) k
all_held p (e ∷ q) good ok k =
    let a = and_parts (allowed p e) (goes_on (p ++ e ∷ []) q) ok in
    subst (λ (r : List Item). free (flags r) (sizes r) ≡ length r) (append_assoc p (e ∷ []) q)
    (all_held (p ++ e ∷ []) q (sane_push p e good a.0) a.1 (held p k e good a.0))

held_all : (p : List Item) → sane p ≡ true → free (flags p) (sizes p) ≡ length p
unfolding sane goes_on flags sizes trees
held_all p good = all_held [] p refl good refl

-- no tie has the last item
last_free : (p : List Item) → sane p ≡ true → 0 < length p → tied p (length p - 1) ≡ false
last_free p good h = by (tied p (length p - 1)) refl
  where
    by : (b : Bool) → tied p (length p - 1) ≡ b → b ≡ false
    by true e = absurd (let q = tied_part p (length p - 1) e in let l = (part_at p good (length p - 1) q.0 q.1).0 in let m = q.1.there in omega arith)
    by false e = refl

pub items_few : (p : List Item) → sane p ≡ true → 0 < length p → items (tree p (length p - 1)) ≤ length p
items_few p good h =
    let l : length p - 1 < length p = omega arith in
    let f = free_at (flags p) (sizes p) (length p - 1) (omega (arith, length_flags p)) (omega (arith, length_flags p, length_sizes p)) (get_or_flags p (length p - 1) false l ∙ last_free p good h) in
    omega (arith, f, size_at p (length p - 1) l, held_all p good)
