-- Whether some axis parts two hulls, as a test.
use Rattle.std.proofs.Common.{◌≡◌, ℕ, Bool, true, false, ◌||◌, T, List, [], ◌∷◌, ℤ, pos, sym, refl, subst, inl, inr, ⊎_elim, arith}
use Rattle.std.proofs.lemmas.Bool.{or_cases, or_left, or_right}
use lib.Signed.{lt_z, lt_z_yes}
use Rattle.std.specs.List.{ContainsAt as Has, AllByRecursion}
use Rattle.std.proofs.ByRecursion.{all-has, has_get_or, has_append_right}
use Rattle.hull.specs.declared.direction.Direction.{Direction}
use Rattle.placement.specs.declared.parts.Placement.{Placement}
use Rattle.pairs.specs.Records.{Axis}
use Rattle.pairs.specs.Axes.{axes_under}
use Rattle.pairs.specs.Gaps.{gap_over_standing, gap_over_moved, Parts, Parted, rounded_axis}

true_of : (b : Bool) → T b → b ≡ true
true_of true t = refl
true_of false t = absurd t

is_true : (b : Bool) → b ≡ true → T b
is_true b e = subst T (sym e) tt

module _ (f g : Direction → ℤ) (p : Placement) where
  abbrev parts? : Axis → Bool
  parts? l = lt_z (pos 0) (gap_over_standing f g (rounded_axis p l)) || lt_z (pos 0) (gap_over_moved f g (rounded_axis p l))

  abbrev some? : List Axis → Bool
  some? [] = false
  some? (l ∷ ls) = parts? l || some? ls

  unfoldable pub parted? : Bool
  parted? = some? (axes_under p)

  parts_is : (l : Axis) → parts? l ≡ true → Parts f g (rounded_axis p l)
  parts_is l h = ⊎_elim (λ e. inl (lt_z_yes (is_true _ e))) (λ e. inr (lt_z_yes (is_true _ e))) (or_cases (lt_z (pos 0) (gap_over_standing f g (rounded_axis p l))) (lt_z (pos 0) (gap_over_moved f g (rounded_axis p l))) h)

  parts_yes : (l : Axis) → Parts f g (rounded_axis p l) → parts? l ≡ true
  parts_yes l (inl k) = or_left (lt_z (pos 0) (gap_over_standing f g (rounded_axis p l))) (lt_z (pos 0) (gap_over_moved f g (rounded_axis p l))) (true_of _ k.lt)
  parts_yes l (inr k) = or_right (lt_z (pos 0) (gap_over_standing f g (rounded_axis p l))) (lt_z (pos 0) (gap_over_moved f g (rounded_axis p l))) (true_of _ k.lt)

  some_is : (ls : List Axis) → some? ls ≡ true → (l : Axis) × Has ls l × Parts f g (rounded_axis p l)
  some_is [] h = absurd (let z : ◌≡◌ {A = ℕ} 0 1 = cc in omega arith)
  some_is (l ∷ ls) h = ⊎_elim
      (λ e. (l, has_get_or (l ∷ ls) 0 l (omega arith), parts_is l e))
      (λ e. let r = some_is ls e in (r.0, has_append_right (l ∷ []) ls r.0 r.1, r.2))
      (or_cases (parts? l) (some? ls) h)

  none_of : (ls : List Axis) → some? ls ≡ false → AllByRecursion (λ l. parts? l ≡ false) ls
  none_of [] h = tt
  none_of (l ∷ ls) h = by (parts? l) refl h (none_of ls)
    where
      by : (b : Bool) → parts? l ≡ b → (b || some? ls) ≡ false → (some? ls ≡ false → AllByRecursion (λ l. parts? l ≡ false) ls) → (parts? l ≡ false) × AllByRecursion (λ l. parts? l ≡ false) ls
      by true e h r = absurd (let z : ◌≡◌ {A = ℕ} 0 1 = cc in omega arith)
      by false e h r = (e, r h)

  pub parted_is : parted? ≡ true → Parted f g p
  unfolding parted? Parted
  parted_is h = some_is (axes_under p) h

  pub parted_not : parted? ≡ false → Parted f g p → ⊥
  unfolding parted? Parted
  parted_not h (l, m, k) =
      let n = all-has (λ l. parts? l ≡ false) (axes_under p) l (none_of (axes_under p) h) m in
      let y = parts_yes l k in
      let z : ◌≡◌ {A = ℕ} 0 1 = cc in omega arith

  pub parted_yes : Parted f g p → parted? ≡ true
  parted_yes k = by parted? refl
    where
      by : (b : Bool) → parted? ≡ b → b ≡ true
      by true e = refl
      by false e = absurd (parted_not e k)

  pub parted_no : (Parted f g p → ⊥) → parted? ≡ false
  parted_no n = by parted? refl
    where
      by : (b : Bool) → parted? ≡ b → b ≡ false
      by true e = absurd (n (parted_is e))
      by false e = refl
