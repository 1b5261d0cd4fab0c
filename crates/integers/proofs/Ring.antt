-- A solver for identities of ℤ by reflection. `solve env e f refl` proves that the two expressions e and f, over the
-- variables that `env` lists, have one value: their normal forms are computed, and are the same.
use Rattle.std.proofs.Common.{◌≡◌, ℕ, zero, suc, T, List, [], ◌∷◌, ℤ, pos, negsuc, ◌+ℤ◌, ◌*ℤ◌, neg_ℤ, sym, refl, ap, ◌∙◌, subst, ap₂, eqb→eq}
use Prim.Native.Nat.{compare, Ordering}
use lib.Dec.{compare_is_eq}
use lib.IntN.{+ℤ_idl, +ℤ_idr, +ℤ_assoc, zero-*ℤ, *ℤ-zero, *ℤ_comm}
use Rattle.integers.proofs.Laws.{add_mul, mul_add, neg_mul, mul_assoc, one_mul, add_left_comm, mul_left_comm, mul_mul_comm}

-- expressions
infixl 6 ◌⊕◌ ◌⊖◌
infixl 7 ◌⊗◌
pub data Expr : Type 0 where
  con : ℤ → Expr
  var : ℕ → Expr
  ◌⊕◌ : Expr → Expr → Expr
  ◌⊗◌ : Expr → Expr → Expr
  ⊝ : Expr → Expr

abbrev pub ◌⊖◌ : Expr → Expr → Expr
a ⊖ b = a ⊕ ⊝ b

-- the number n
abbrev pub # : ℕ → Expr
# n = con (pos n)

-- the variable at a place of the list
abbrev pub look : List ℤ → ℕ → ℤ
look [] n = pos 0
look (x ∷ xs) zero = x
look (x ∷ xs) (suc n) = look xs n

abbrev pub eval : List ℤ → Expr → ℤ
eval env (con c) = c
eval env (var i) = look env i
eval env (a ⊕ b) = eval env a +ℤ eval env b
eval env (a ⊗ b) = eval env a *ℤ eval env b
eval env (⊝ a) = neg_ℤ (eval env a)

-- a monomial is a sorted list of places, and a polynomial a sorted list of monomials with coefficients that are not 0
pub data Poly : Type 0 where
  nil : Poly
  term : ℤ → List ℕ → Poly → Poly

abbrev then : Ordering → Ordering → Ordering
then Ordering.lt o = Ordering.lt
then Ordering.eq o = o
then Ordering.gt o = Ordering.gt

abbrev pub order : List ℕ → List ℕ → Ordering
order [] [] = Ordering.eq
order [] (j ∷ n) = Ordering.lt
order (i ∷ m) [] = Ordering.gt
order (i ∷ m) (j ∷ n) = then (compare i j) (order m n)

-- a coefficient that is 0 is left out
abbrev pub put : ℤ → List ℕ → Poly → Poly
put (pos zero) m p = p
put (pos (suc c)) m p = term (pos (suc c)) m p
put (negsuc c) m p = term (negsuc c) m p

abbrev pub insert : ℤ → List ℕ → Poly → Poly
insert c m nil = put c m nil
insert c m (term d n p) = elim (order m n) [ Ordering.lt ↦ put c m (term d n p) | Ordering.eq ↦ put (c +ℤ d) n p | Ordering.gt ↦ term d n (insert c m p) ]

abbrev pub plus : Poly → Poly → Poly
plus nil q = q
plus (term c m p) q = insert c m (plus p q)

abbrev pub into : ℕ → List ℕ → List ℕ
into i [] = i ∷ []
into i (j ∷ n) = elim (compare i j) [ Ordering.lt ↦ i ∷ j ∷ n | Ordering.eq ↦ i ∷ j ∷ n | Ordering.gt ↦ j ∷ into i n ]

abbrev pub merge : List ℕ → List ℕ → List ℕ
merge [] n = n
merge (i ∷ m) n = into i (merge m n)

abbrev pub scale : ℤ → List ℕ → Poly → Poly
scale c m nil = nil
scale c m (term d n p) = insert (c *ℤ d) (merge m n) (scale c m p)

abbrev pub times : Poly → Poly → Poly
times nil q = nil
times (term c m p) q = plus (scale c m q) (times p q)

abbrev pub norm : Expr → Poly
norm (con c) = put c [] nil
norm (var i) = term (pos 1) (i ∷ []) nil
norm (a ⊕ b) = plus (norm a) (norm b)
norm (a ⊗ b) = times (norm a) (norm b)
norm (⊝ a) = scale (negsuc 0) [] (norm a)

-- the value of a normal form
mono : List ℤ → List ℕ → ℤ
mono env [] = pos 1
mono env (i ∷ m) = look env i *ℤ mono env m

value : List ℤ → Poly → ℤ
value env nil = pos 0
value env (term c m p) = c *ℤ mono env m +ℤ value env p

same_order : (m n : List ℕ) → order m n ≡ Ordering.eq → m ≡ n
same_order [] [] e = refl
same_order [] (j ∷ n) e = absurd (subst (λ (o : Ordering). T (compare_is_eq o)) (sym e) tt)
same_order (i ∷ m) [] e = absurd (subst (λ (o : Ordering). T (compare_is_eq o)) (sym e) tt)
same_order (i ∷ m) (j ∷ n) e = by (compare i j) refl e (same_order m n)
  where
    by : (o : Ordering) → compare i j ≡ o → then o (order m n) ≡ Ordering.eq → (order m n ≡ Ordering.eq → m ≡ n) → i ∷ m ≡ j ∷ n
    by Ordering.lt c e r = absurd (subst (λ (o : Ordering). T (compare_is_eq o)) (sym e) tt)
    by Ordering.eq c e r = ap₂ ◌∷◌ (eqb→eq i j (subst (λ (o : Ordering). T (compare_is_eq o)) (sym c) tt)) (r e)
    by Ordering.gt c e r = absurd (subst (λ (o : Ordering). T (compare_is_eq o)) (sym e) tt)

module _ (env : List ℤ) where
  put_is : (c : ℤ) (m : List ℕ) (p : Poly) → value env (put c m p) ≡ c *ℤ mono env m +ℤ value env p
  unfolding value
  put_is (pos zero) m p = sym (ap (λ x. x +ℤ value env p) (zero-*ℤ (mono env m)) ∙ +ℤ_idl (value env p))
  put_is (pos (suc c)) m p = refl
  put_is (negsuc c) m p = refl

  insert_is : (c : ℤ) (m : List ℕ) (p : Poly) → value env (insert c m p) ≡ c *ℤ mono env m +ℤ value env p
  unfolding value
  insert_is c m nil = put_is c m nil
  insert_is c m (term d n p) = by (order m n) refl (insert_is c m p)
    where
      by : (o : Ordering) → order m n ≡ o → value env (insert c m p) ≡ c *ℤ mono env m +ℤ value env p → value env (elim o [ Ordering.lt ↦ put c m (term d n p) | Ordering.eq ↦ put (c +ℤ d) n p | Ordering.gt ↦ term d n (insert c m p) ]) ≡ c *ℤ mono env m +ℤ (d *ℤ mono env n +ℤ value env p)
      by Ordering.lt e r = put_is c m (term d n p)
      by Ordering.eq e r =
          put_is (c +ℤ d) n p ∙ ap (λ x. x +ℤ value env p) (add_mul c d (mono env n))
          ∙ +ℤ_assoc (c *ℤ mono env n) (d *ℤ mono env n) (value env p)
          ∙ ap (λ (k : List ℕ). c *ℤ mono env k +ℤ (d *ℤ mono env n +ℤ value env p)) (sym (same_order m n e))
      by Ordering.gt e r =
          ap (λ x. d *ℤ mono env n +ℤ x) r ∙ add_left_comm (d *ℤ mono env n) (c *ℤ mono env m) (value env p)

  plus_is : (p q : Poly) → value env (plus p q) ≡ value env p +ℤ value env q
  unfolding value
  plus_is nil q = sym (+ℤ_idl (value env q))
  plus_is (term c m p) q =
      insert_is c m (plus p q) ∙ ap (λ x. c *ℤ mono env m +ℤ x) (plus_is p q)
      ∙ sym (+ℤ_assoc (c *ℤ mono env m) (value env p) (value env q))

  into_is : (i : ℕ) (n : List ℕ) → mono env (into i n) ≡ look env i *ℤ mono env n
  unfolding mono
  into_is i [] = refl
  into_is i (j ∷ n) = by (compare i j) (into_is i n)
    where
      by : (o : Ordering) → mono env (into i n) ≡ look env i *ℤ mono env n → mono env (elim o [ Ordering.lt ↦ i ∷ j ∷ n | Ordering.eq ↦ i ∷ j ∷ n | Ordering.gt ↦ j ∷ into i n ]) ≡ look env i *ℤ (look env j *ℤ mono env n)
      by Ordering.lt r = refl
      by Ordering.eq r = refl
      by Ordering.gt r = ap (λ x. look env j *ℤ x) r ∙ mul_left_comm (look env j) (look env i) (mono env n)

  merge_is : (m n : List ℕ) → mono env (merge m n) ≡ mono env m *ℤ mono env n
  unfolding mono
  merge_is [] n = sym (one_mul (mono env n))
  merge_is (i ∷ m) n =
      into_is i (merge m n) ∙ ap (λ x. look env i *ℤ x) (merge_is m n)
      ∙ sym (mul_assoc (look env i) (mono env m) (mono env n))

  scale_is : (c : ℤ) (m : List ℕ) (p : Poly) → value env (scale c m p) ≡ c *ℤ mono env m *ℤ value env p
  unfolding value
  scale_is c m nil = sym (*ℤ-zero (c *ℤ mono env m))
  scale_is c m (term d n p) =
      insert_is (c *ℤ d) (merge m n) (scale c m p)
      ∙ ap₂ (λ x y. c *ℤ d *ℤ x +ℤ y) (merge_is m n) (scale_is c m p)
      ∙ ap (λ x. x +ℤ c *ℤ mono env m *ℤ value env p) (mul_mul_comm c d (mono env m) (mono env n))
      ∙ sym (mul_add (c *ℤ mono env m) (d *ℤ mono env n) (value env p))

  times_is : (p q : Poly) → value env (times p q) ≡ value env p *ℤ value env q
  unfolding value
  times_is nil q = sym (zero-*ℤ (value env q))
  times_is (term c m p) q =
      plus_is (scale c m q) (times p q) ∙ ap₂ ◌+ℤ◌ (scale_is c m q) (times_is p q)
      ∙ sym (add_mul (c *ℤ mono env m) (value env p) (value env q))

  norm_is : (e : Expr) → value env (norm e) ≡ eval env e
  unfolding value mono
  norm_is (con c) = put_is c [] nil ∙ +ℤ_idr (c *ℤ pos 1) ∙ *ℤ_comm c (pos 1) ∙ one_mul c
  norm_is (var i) =
      +ℤ_idr (pos 1 *ℤ (look env i *ℤ pos 1)) ∙ one_mul (look env i *ℤ pos 1) ∙ *ℤ_comm (look env i) (pos 1)
      ∙ one_mul (look env i)
  norm_is (a ⊕ b) = plus_is (norm a) (norm b) ∙ ap₂ ◌+ℤ◌ (norm_is a) (norm_is b)
  norm_is (a ⊗ b) = times_is (norm a) (norm b) ∙ ap₂ ◌*ℤ◌ (norm_is a) (norm_is b)
  norm_is (⊝ a) =
      scale_is (negsuc 0) [] (norm a) ∙ neg_mul (pos 1) (value env (norm a))
      ∙ ap neg_ℤ (one_mul (value env (norm a)) ∙ norm_is a)

pub solve : (env : List ℤ) (a b : Expr) → norm a ≡ norm b → eval env a ≡ eval env b
solve env a b h = sym (norm_is env a) ∙ ap (value env) h ∙ norm_is env b
