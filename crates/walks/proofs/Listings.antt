-- What a walk lists, and what it leaves out.
use Rattle.std.proofs.Common.{◌≡◌, ℕ, ◌⊎◌, List, ◌++◌, sym, refl, ap, ap₂, subst₂, inl, inr, ⊎_elim, arith}
use mathlib.Core.List.Memᴰ
use mathlib.Core.List.{Memᴰ}
use Rattle.book.specs.declared.item.Facet.{Facet}
use Rattle.book.specs.Trees.{Tree, leaf, node, number}
use Rattle.walks.proofs.Inside.{Inside, itself, first, second}
use Rattle.walks.specs.Walks.{Walk, apart, facets, tie_facet, facet_tie, ties}

module _ (Parted : Tree → Tree → Type 0) where
  -- a leaf lies under a tie only under one of its parts
  under_tie : {P : Type 0} {m n : ℕ} {e : Facet} {x y : Tree} → Inside (leaf m e) (node n x y) → (Inside (leaf m e) x → P) → (Inside (leaf m e) y → P) → P
  under_tie (itself h) f g = absurd (apart_trees h)
    where
      apart_trees : {m n : ℕ} {e : Facet} {x y : Tree} → leaf m e ≡ node n x y → ⊥
      apart_trees h = let z : ◌≡◌ {A = ℕ} 0 1 = cc in omega arith
  under_tie (first h) f g = f h
  under_tie (second h) f g = g h

  -- and under a leaf only if it is that leaf
  under_leaf : {m n : ℕ} {e f : Facet} → Inside (leaf m e) (leaf n f) → leaf m e ≡ leaf n f
  under_leaf (itself h) = h

  -- an item pair above a facet pair that is parted
  pub record PartedAbove (s s' t u : Tree) : Type 0 where
    pub above : Tree
    pub above' : Tree
    pub in_moved : Inside above t
    pub in_standing : Inside above' u
    pub over_moved : Inside s above
    pub over_standing : Inside s' above'
    pub parts : Parted above above'

  lift : {s s' t u t' u' : Tree} → ((a : Tree) → Inside a t → Inside a t') → ((a : Tree) → Inside a u → Inside a u') → PartedAbove s s' t u → PartedAbove s s' t' u'
  lift f g p = record { above = p.above; above' = p.above'; in_moved = f p.above p.in_moved; in_standing = g p.above' p.in_standing; over_moved = p.over_moved; over_standing = p.over_standing; parts = p.parts }

  -- every facet pair is listed, or lies under an item pair that is parted
  pub listed_or_parted : {t u : Tree} {ps : List (ℕ × ℕ)} {k : ℕ} → Walk Parted t u ps k → {m n : ℕ} {e f : Facet} → Inside (leaf m e) t → Inside (leaf n f) u → Memᴰ (m, n) ps ⊎ PartedAbove (leaf m e) (leaf n f) t u
  listed_or_parted (apart {t} {u} h) a b = inr (record { above = t; above' = u; in_moved = itself refl; in_standing = itself refl; over_moved = a; over_standing = b; parts = h })
  listed_or_parted (facets h) {m} {n} a b = inl (Memᴰ.head (ap₂ (λ (i j : ℕ). (i, j)) (ap number (under_leaf a)) (ap number (under_leaf b))))
  listed_or_parted (tie_facet {ps} {qs} h w v) a b =
      under_tie a (λ c. ⊎_elim (λ i. inl (Memᴰ.append_left qs i)) (λ q. inr (lift (λ a. first) (λ a d. d) q)) (listed_or_parted w c b))
      (λ c. ⊎_elim (λ i. inl (Memᴰ.append_right ps i)) (λ q. inr (lift (λ a. second) (λ a d. d) q)) (listed_or_parted v c b))
  listed_or_parted (facet_tie {ps} {qs} h w v) a b =
      under_tie b (λ c. ⊎_elim (λ i. inl (Memᴰ.append_left qs i)) (λ q. inr (lift (λ a d. d) (λ a. first) q)) (listed_or_parted w a c))
      (λ c. ⊎_elim (λ i. inl (Memᴰ.append_right ps i)) (λ q. inr (lift (λ a d. d) (λ a. second) q)) (listed_or_parted v a c))
  listed_or_parted (ties {ps} {qs} {rs} {ss} h w1 w2 w3 w4) a b =
      under_tie a
      (λ c. under_tie b (λ d. ⊎_elim (λ i. inl (Memᴰ.append_left (qs ++ (rs ++ ss)) i)) (λ q. inr (lift (λ a. first) (λ a. first) q)) (listed_or_parted w1 c d))
      (λ d. ⊎_elim (λ i. inl (Memᴰ.append_right ps (Memᴰ.append_left (rs ++ ss) i))) (λ q. inr (lift (λ a. first) (λ a. second) q)) (listed_or_parted w2 c d)))
      (λ c. under_tie b (λ d. ⊎_elim (λ i. inl (Memᴰ.append_right ps (Memᴰ.append_right qs (Memᴰ.append_left ss i)))) (λ q. inr (lift (λ a. second) (λ a. first) q)) (listed_or_parted w3 c d))
      (λ d. ⊎_elim (λ i. inl (Memᴰ.append_right ps (Memᴰ.append_right qs (Memᴰ.append_right rs i)))) (λ q. inr (lift (λ a. second) (λ a. second) q)) (listed_or_parted w4 c d)))

  -- what is listed is a facet of each, and no axis parts their hulls
  pub record Listed (t u : Tree) (m n : ℕ) : Type 0 where
    pub moved : Facet
    pub standing : Facet
    pub in_moved : Inside (leaf m moved) t
    pub in_standing : Inside (leaf n standing) u
    pub unparted : Parted (leaf m moved) (leaf n standing) → ⊥

  raise : {t u t' u' : Tree} {m n : ℕ} → ((a : Tree) → Inside a t → Inside a t') → ((a : Tree) → Inside a u → Inside a u') → Listed t u m n → Listed t' u' m n
  raise f g p = record { moved = p.moved; standing = p.standing; in_moved = f (leaf _ p.moved) p.in_moved; in_standing = g (leaf _ p.standing) p.in_standing; unparted = p.unparted }

  pub listed_facets : {t u : Tree} {ps : List (ℕ × ℕ)} {k : ℕ} → Walk Parted t u ps k → {a b : ℕ} → Memᴰ (a, b) ps → Listed t u a b
  listed_facets (apart h) i = absurd (Memᴰ.not-nil i)
  listed_facets (facets {m} {n} {e} {f} h) {a} {b} i =
      let q = Memᴰ.eq_of_singleton i in
      let x : a ≡ m = ap (λ (p : ℕ × ℕ). p.0) q in
      let y : b ≡ n = ap (λ (p : ℕ × ℕ). p.1) q in
      record { moved = e; standing = f; in_moved = itself (ap (λ (k : ℕ). leaf k e) x); in_standing = itself (ap (λ (k : ℕ). leaf k f) y); unparted = subst₂ (λ (i j : ℕ). Parted (leaf i e) (leaf j f) → ⊥) (sym x) (sym y) h }
  listed_facets (tie_facet {ps} h w v) i = ⊎_elim (λ j. raise (λ a. first) (λ a d. d) (listed_facets w j)) (λ j. raise (λ a. second) (λ a d. d) (listed_facets v j)) (Memᴰ.append_cases ps i)
  listed_facets (facet_tie {ps} h w v) i = ⊎_elim (λ j. raise (λ a d. d) (λ a. first) (listed_facets w j)) (λ j. raise (λ a d. d) (λ a. second) (listed_facets v j)) (Memᴰ.append_cases ps i)
  listed_facets (ties {ps} {qs} {rs} h w1 w2 w3 w4) i =
      ⊎_elim (λ j. raise (λ a. first) (λ a. first) (listed_facets w1 j))
      (λ i. ⊎_elim (λ j. raise (λ a. first) (λ a. second) (listed_facets w2 j))
      (λ i. ⊎_elim (λ j. raise (λ a. second) (λ a. first) (listed_facets w3 j)) (λ j. raise (λ a. second) (λ a. second) (listed_facets w4 j)) (Memᴰ.append_cases rs i)) (Memᴰ.append_cases qs i)) (Memᴰ.append_cases ps i)
