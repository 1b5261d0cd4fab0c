-- No pair is listed twice.
use Rattle.std.proofs.Common.{ℕ, List, [], ◌∷◌, ◌++◌, refl, ⊎_elim}
use mathlib.Core.List.Memᴰ
use mathlib.Core.List.{Memᴰ}
use Rattle.book.specs.declared.item.Facet.{Facet}
use Rattle.book.specs.Trees.{Tree, leaf}
use Rattle.walks.proofs.Inside.{Inside, Separate}
use Rattle.walks.specs.Walks.{Walk, apart, facets, tie_facet, facet_tie, ties, Once}
use Rattle.walks.proofs.Listings.{listed_facets}

once_append : {X : Type 0} (xs ys : List X) → Once xs → Once ys → ((x : X) → Memᴰ x xs → Memᴰ x ys → ⊥) → Once (xs ++ ys)
once_append [] ys a b f = b
once_append (x ∷ xs) ys a b f =
    (λ i. ⊎_elim a.0 (λ j. f x (Memᴰ.head refl) j) (Memᴰ.append_cases xs i), once_append xs ys a.1 b (λ z i j. f z (Memᴰ.tail i) j))

module _ (Parted : Tree → Tree → Type 0) where
  -- lists of walks that share no moved facet, or no standing one, have no pair in common
  other_moved : {x y u u' : Tree} {ps qs : List (ℕ × ℕ)} {i j : ℕ} → ((m : ℕ) (e f : Facet) → Inside (leaf m e) x → Inside (leaf m f) y → ⊥) → Walk Parted x u ps i → Walk Parted y u' qs j → (p : ℕ × ℕ) → Memᴰ p ps → Memᴰ p qs → ⊥
  other_moved f w v p a b =
      let l = listed_facets Parted w a in
      let r = listed_facets Parted v b in
      f p.0 l.moved r.moved l.in_moved r.in_moved

  other_standing : {t t' x y : Tree} {ps qs : List (ℕ × ℕ)} {i j : ℕ} → ((m : ℕ) (e f : Facet) → Inside (leaf m e) x → Inside (leaf m f) y → ⊥) → Walk Parted t x ps i → Walk Parted t' y qs j → (p : ℕ × ℕ) → Memᴰ p ps → Memᴰ p qs → ⊥
  other_standing f w v p a b =
      let l = listed_facets Parted w a in
      let r = listed_facets Parted v b in
      f p.1 l.standing r.standing l.in_standing r.in_standing

  pub walk_once : {t u : Tree} {ps : List (ℕ × ℕ)} {k : ℕ} → Walk Parted t u ps k → Separate t → Separate u → Once ps
  walk_once (apart h) a b = tt
  walk_once (facets h) a b = (Memᴰ.not-nil, tt)
  walk_once (tie_facet {ps} {qs} h w v) a b = once_append ps qs (walk_once w a.1 b) (walk_once v a.2 b) (other_moved a.0 w v)
  walk_once (facet_tie {ps} {qs} h w v) a b = once_append ps qs (walk_once w a b.1) (walk_once v a b.2) (other_standing b.0 w v)
  walk_once (ties {ps} {qs} {rs} {ss} h w1 w2 w3 w4) a b =
      once_append ps (qs ++ (rs ++ ss)) (walk_once w1 a.1 b.1)
      (once_append qs (rs ++ ss) (walk_once w2 a.1 b.2)
      (once_append rs ss (walk_once w3 a.2 b.1) (walk_once w4 a.2 b.2) (other_standing b.0 w3 w4))
      (λ p i j. ⊎_elim (other_moved a.0 w2 w3 p i) (other_moved a.0 w2 w4 p i) (Memᴰ.append_cases rs j)))
      (λ p i j. ⊎_elim (other_standing b.0 w1 w2 p i) (λ k. ⊎_elim (other_moved a.0 w1 w3 p i) (other_moved a.0 w1 w4 p i) (Memᴰ.append_cases rs k)) (Memᴰ.append_cases qs j))
