-- The list of a placement's axes.
use Rattle.std.proofs.Common.{◌≡◌, ℕ, ◌-◌, ◌<◌, ◌≤◌, List, map, length, get_or, ℤ, sym, refl, ap, ◌∙◌, subst, arith}
use Rattle.std.specs.List.{AllByRecursion}
use Rattle.std.proofs.ByRecursion.{All-get_or, has_get_or}
use Rattle.std.proofs.lemmas.List.{get_or-map, get_or_append_left, get_or-append_right, same_lists, length-map}
use Rattle.hull.specs.declared.direction.Direction.{Direction}
use Rattle.placement.specs.declared.parts.Placement.{Placement}
use Rattle.pairs.specs.declared.axis.SeparatingAxis.{SeparatingAxis}
use Rattle.pairs.specs.Units.{fixed_count, axis_count}
use Rattle.pairs.specs.Axes.{fixed_axes, no_fixed, as_axis, turned, axes_under, no_axis, axis_at}
use Rattle.pairs.specs.Gaps.{Parts, Parted, rounded_axis, separating_axes}

module _ (p : Placement) where
  pub fixed_at : (i : ℕ) → i < fixed_count → axis_at p i ≡ as_axis (get_or fixed_axes i no_fixed)
  unfolding axis_at axes_under
  fixed_at i h = get_or_append_left (map as_axis fixed_axes) (map (turned p) fixed_axes) no_axis i h ∙ get_or-map as_axis fixed_axes i no_fixed no_axis h

  pub turned_at : (i : ℕ) → fixed_count ≤ i → i < axis_count → axis_at p i ≡ turned p (get_or fixed_axes (i - fixed_count) no_fixed)
  unfolding axis_at axes_under
  turned_at i h k =
      let l : i - fixed_count < fixed_count = omega arith in
      get_or-append_right (map as_axis fixed_axes) (map (turned p) fixed_axes) fixed_count i no_axis refl h ∙ get_or-map (turned p) fixed_axes (i - fixed_count) no_fixed no_axis l

  axes_length : length (axes_under p) ≡ axis_count
  unfolding axes_under
  axes_length = refl

  separating_length : length (separating_axes p) ≡ axis_count
  unfolding separating_axes
  separating_length = length-map (axes_under p) (rounded_axis p) ∙ axes_length

  separating_at : (i : ℕ) (d : SeparatingAxis) → i < axis_count → get_or (separating_axes p) i d ≡ rounded_axis p (axis_at p i)
  unfolding separating_axes axis_at
  separating_at i d h = get_or-map (rounded_axis p) (axes_under p) i no_axis d (subst (λ (n : ℕ). i < n) (sym axes_length) h)

  -- ---- a list made of them, one by one
  pub all_made : (each : List SeparatingAxis) → length each ≡ axis_count → ((i : ℕ) (d : SeparatingAxis) → i < axis_count → get_or each i d ≡ rounded_axis p (axis_at p i)) → each ≡ separating_axes p
  all_made each n made =
      same_lists each (separating_axes p) (n ∙ sym separating_length)
      (λ i d h. let l : i < axis_count = omega arith in made i d l ∙ sym (separating_at i d l))

  -- ---- a list that holds them
  module _ (each : List SeparatingAxis) (are : each ≡ separating_axes p) where
    pub each_length : length each ≡ axis_count
    each_length = ap length are ∙ separating_length

    pub each_at : (i : ℕ) (d : SeparatingAxis) → i < axis_count → get_or each i d ≡ rounded_axis p (axis_at p i)
    each_at i d h = ap (λ (xs : List SeparatingAxis). get_or xs i d) are ∙ separating_at i d h

    -- a search through it, for the reaches f and g
    module _ (f g : Direction → ℤ) where
      pub some_parts : (i : ℕ) (d : SeparatingAxis) → i < axis_count → Parts f g (get_or each i d) → Parted f g p
      unfolding Parted axis_at
      some_parts i d h k = (axis_at p i, has_get_or (axes_under p) i no_axis (subst (λ (n : ℕ). i < n) (sym axes_length) h), subst (Parts f g) (each_at i d h) k)

      pub none_parts : AllByRecursion (λ s. Parts f g s → ⊥) each → Parted f g p → ⊥
      unfolding Parted axis_at
      none_parts h (l, (i, k, at), parts) =
          let m : i < axis_count = subst (λ (n : ℕ). i < n) axes_length k in
          let e = each_at i (rounded_axis p l) m ∙ ap (rounded_axis p) (at no_axis) in
          All-get_or (λ s. Parts f g s → ⊥) each i (rounded_axis p l) (subst (λ (n : ℕ). i < n) (sym each_length) m) h (subst (Parts f g) (sym e) parts)
