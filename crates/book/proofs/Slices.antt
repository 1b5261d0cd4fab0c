-- Parts of a list, and what a write leaves of them.
use Rattle.std.proofs.Common.{◌≡◌, ℕ, suc, ◌+◌, ◌-◌, ◌<◌, ◌≤◌, List, [], ◌∷◌, ◌++◌, map, length, get_or, take, drop, set, sym, refl, ap, ◌∙◌, ⊎_elim, arith}
use lib.Seq.{take-set-lt}
use Rattle.std.proofs.lemmas.List.{drop-set-add, take_more_set, take-set-le, length-drop, length-take, length-map, take-map, drop-map, get_or-take, get_or-map, map_push}
use Rattle.std.proofs.lemmas.Bool.{cases_lt}
use Rattle.book.specs.declared.item.Item.{Item}
use Rattle.book.specs.declared.ledger.Span.{Span}
use Rattle.book.specs.Ledgers.{slice, objects, objects_over}

module _ {X : Type 0} (xs : List X) (b u : ℕ) where
  pub slice_push : (x : X) → b ≤ u → u < length xs → slice b (u + 1) (set xs u x) ≡ slice b u xs ++ x ∷ []
  unfolding slice
  slice_push x l h =
      let n : u + 1 - b ≡ (u - b) + 1 = omega arith in
      let e : u ≡ b + (u - b) = omega arith in
      let d : drop b (set xs u x) ≡ set (drop b xs) (u - b) x = ap (λ k. drop b (set xs k x)) e ∙ drop-set-add b xs (u - b) x in
      let lt : u - b < length (drop b xs) = simp length-drop (omega arith) in
      rw (n, d) (take_more_set (drop b xs) (u - b) x lt)

  pub slice_kept : (i : ℕ) (x : X) → u ≤ i → slice b u (set xs i x) ≡ slice b u xs
  unfolding slice
  slice_kept i x l = ⊎_elim
      (λ (h : i < b). let z : u - b ≡ 0 = omega arith in rw z refl)
      (λ (h : b ≤ i).
      let e : i ≡ b + (i - b) = omega arith in
      let le : u - b ≤ i - b = omega arith in
      rw (ap (λ k. drop b (set xs k x)) e ∙ drop-set-add b xs (i - b) x) (take-set-le (u - b) (drop b xs) (i - b) x le))
      (cases_lt i b)

  pub slice_set : (i : ℕ) (x : X) → i < u - b → slice b u (set xs (b + i) x) ≡ set (slice b u xs) i x
  unfolding slice
  slice_set i x h = ap (take (u - b)) (drop-set-add b xs i x) ∙ take-set-lt (u - b) (drop b xs) i x h

  pub length_slice : u ≤ length xs → length (slice b u xs) ≡ u - b
  unfolding slice
  length_slice h = simp (length-take, length-drop) (omega arith)

  -- what has an element ends after it begins
  pub slice_short : 0 < length (slice b u xs) → b ≤ u
  unfolding slice
  slice_short h = omega (arith, simp length-take at h)

  pub slice_map : {Y : Type 0} (f : X → Y) → map f (slice b u xs) ≡ slice b u (map f xs)
  unfolding slice
  slice_map f = sym (ap (take (u - b)) (drop-map f b xs) ∙ take-map f (u - b) (drop b xs))

pub slice_none : {X : Type 0} (xs : List X) (b : ℕ) → slice b b xs ≡ []
unfolding slice
slice_none xs b = let z : b - b ≡ 0 = omega arith in rw z refl

map_same : {X Y : Type 0} (f g : X → Y) (xs : List X) → ((k : ℕ) (d : X) → k < length xs → f (get_or xs k d) ≡ g (get_or xs k d)) → map f xs ≡ map g xs
map_same f g [] h = refl
map_same f g (x ∷ xs) h =
    let e : f x ≡ g x = h 0 x (omega arith) in
    let es : map f xs ≡ map g xs = map_same f g xs (λ k d l. h (suc k) d (omega arith)) in
    cc

-- objects stay where a write comes after them, and one more is filed at the end
module _ (closed : ℕ) (spans : List Span) (all : List Item) where
  pub objects_kept : (base i : ℕ) (e : Item) → ((k : ℕ) (d : Span) → k < closed → (get_or spans k d).to ≤ base) → base ≤ i → objects closed spans (set all i e) ≡ objects closed spans all
  unfolding objects
  objects_kept base i e apart l = map_same _ _ (take closed spans) (λ k d h.
      let lt : k < closed = omega (arith, length-take closed spans) in
      let w : get_or (take closed spans) k d ≡ get_or spans k d = get_or-take closed spans k d lt in
      rw w (slice_kept all (get_or spans k d).from (get_or spans k d).to i e (omega (arith, apart k d lt))))

  pub objects_push : (s : Span) → closed < length spans → objects (closed + 1) (set spans closed s) all ≡ objects closed spans all ++ slice s.from s.to all ∷ []
  unfolding objects
  objects_push s h = rw (take_more_set spans closed s h) (map_push _ (take closed spans) s)

  pub length_objects : closed ≤ length spans → length (objects closed spans all) ≡ closed
  unfolding objects
  length_objects h = length-map (take closed spans) _ ∙ (length-take closed spans ∙ omega arith)

-- one object's own
pub object_over_at : {X : Type 0} (closed : ℕ) (spans : List Span) (all : List X) (k : ℕ) (d : Span) (e : List X) → k < closed → closed ≤ length spans → get_or (objects_over closed spans all) k e ≡ slice (get_or spans k d).from (get_or spans k d).to all
unfolding objects_over
object_over_at closed spans all k d e h l =
    get_or-map (λ (s : Span). slice s.from s.to all) (take closed spans) k d e (omega (arith, length-take closed spans))
    ∙ ap (λ (s : Span). slice s.from s.to all) (get_or-take closed spans k d h)

pub object_at : (closed : ℕ) (spans : List Span) (all : List Item) (k : ℕ) (d : Span) (e : List Item) → k < closed → closed ≤ length spans → get_or (objects closed spans all) k e ≡ slice (get_or spans k d).from (get_or spans k d).to all
unfolding objects objects_over
object_at closed spans all k d e h l = object_over_at closed spans all k d e h l
