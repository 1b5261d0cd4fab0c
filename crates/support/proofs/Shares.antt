-- One face's share of a reach, with its rounding.
use Rattle.std.proofs.Common.{ℕ, suc, ◌+◌, ◌-◌, ◌*◌, ◌≤◌, [], ◌∷◌, ℤ, pos, negsuc, ◌+ℤ◌, ◌-ℤ◌, ◌*ℤ◌, nat_abs, ◌≤ℤ◌, refl, arith, lit<}
use borrow.Author.Differences.{ints}
use Rattle.integers.proofs.Ring.{var, ◌⊕◌, ◌⊖◌, ◌⊗◌, ⊝, #}
use Rattle.integers.proofs.Certificates.{le_by, gap, nat, ◌⊞◌, ◌⊠◌}
use Rattle.integers.proofs.Rounding.{div_up_bounds}
use Rattle.hull.specs.Units.{support_unit, weight_unit, reach_unit}
use Rattle.hull.specs.Weights.{rounded_up, rounded_down}
use Rattle.support.specs.Supports.{kept, share}

-- by how much a share may pass the unrounded one, where the support value is at most m in size
abbrev pub excess : ℕ → ℕ → ℕ
excess w m = (support_unit - 1) * w + support_unit * (weight_unit - 1) * m

up : (w : ℕ) → (pos 0 ≤ℤ (pos weight_unit *ℤ pos (rounded_up w) -ℤ pos w)) × (pos 0 ≤ℤ (pos w +ℤ pos (weight_unit - 1) -ℤ pos weight_unit *ℤ pos (rounded_up w)))
up w = (omega (arith, ints), omega (arith, ints))

down : (w : ℕ) → (pos 0 ≤ℤ (pos w -ℤ pos weight_unit *ℤ pos (rounded_down w))) × (pos 0 ≤ℤ (pos weight_unit *ℤ pos (rounded_down w) +ℤ pos (weight_unit - 1) -ℤ pos w))
down w = (omega (arith, ints), omega (arith, ints))

-- w × d ≤ 256 × share, where d ≤ 4 × g
pub share_over : (w : ℕ) (g d : ℤ) → d ≤ℤ (pos support_unit *ℤ g) → (pos w *ℤ d) ≤ℤ (pos reach_unit *ℤ share w g)
share_over w (pos k) d h =
    le_by (pos w ∷ d ∷ pos (rounded_up w) ∷ pos k ∷ []) (var 0 ⊗ var 1) (# reach_unit ⊗ (var 2 ⊗ var 3))
    (# support_unit ⊗ var 3 ⊗ (# weight_unit ⊗ var 2 ⊖ var 0) ⊕ var 0 ⊗ (# support_unit ⊗ var 3 ⊖ var 1)) refl
    (nat support_unit ⊠ nat k ⊠ (up w).0 ⊞ nat w ⊠ gap h)
share_over w (negsuc k) d h =
    le_by (pos w ∷ d ∷ pos (rounded_down w) ∷ negsuc k ∷ []) (var 0 ⊗ var 1) (# reach_unit ⊗ (var 2 ⊗ var 3))
    (# support_unit ⊗ ⊝ (var 3) ⊗ (var 0 ⊖ # weight_unit ⊗ var 2) ⊕ var 0 ⊗ (# support_unit ⊗ var 3 ⊖ var 1)) refl
    (nat support_unit ⊠ nat (suc k) ⊠ (down w).0 ⊞ nat w ⊠ gap h)

-- 256 × share ≤ w × d + 3 × w + 252 × m, where 4 × g ≤ d + 3 and g is at most m in size
pub share_under : (w m : ℕ) (g d : ℤ) → (pos support_unit *ℤ g) ≤ℤ (d +ℤ pos (support_unit - 1)) → nat_abs g ≤ m → (pos reach_unit *ℤ share w g) ≤ℤ (pos w *ℤ d +ℤ pos (excess w m))
share_under w m (pos k) d h b =
    let s : pos 0 ≤ℤ (pos m -ℤ pos k) = omega (arith, ints) in
    le_by (pos w ∷ pos m ∷ pos k ∷ d ∷ pos (rounded_up w) ∷ []) (# reach_unit ⊗ (var 4 ⊗ var 2))
    (var 0 ⊗ var 3 ⊕ (# (support_unit - 1) ⊗ var 0 ⊕ # (support_unit * (weight_unit - 1)) ⊗ var 1))
    (var 0 ⊗ (var 3 ⊕ # (support_unit - 1) ⊖ # support_unit ⊗ var 2) ⊕ # support_unit ⊗ var 2 ⊗ (var 0 ⊕ # (weight_unit - 1) ⊖ # weight_unit ⊗ var 4) ⊕ # (support_unit * (weight_unit - 1)) ⊗ (var 1 ⊖ var 2))
    refl (nat w ⊠ gap h ⊞ nat support_unit ⊠ nat k ⊠ (up w).1 ⊞ nat (support_unit * (weight_unit - 1)) ⊠ s)
share_under w m (negsuc k) d h b =
    let s : pos 0 ≤ℤ (pos m +ℤ negsuc k) = omega (arith, ints) in
    le_by (pos w ∷ pos m ∷ negsuc k ∷ d ∷ pos (rounded_down w) ∷ []) (# reach_unit ⊗ (var 4 ⊗ var 2))
    (var 0 ⊗ var 3 ⊕ (# (support_unit - 1) ⊗ var 0 ⊕ # (support_unit * (weight_unit - 1)) ⊗ var 1))
    (var 0 ⊗ (var 3 ⊕ # (support_unit - 1) ⊖ # support_unit ⊗ var 2) ⊕ # support_unit ⊗ ⊝ (var 2) ⊗ (# weight_unit ⊗ var 4 ⊕ # (weight_unit - 1) ⊖ var 0) ⊕ # (support_unit * (weight_unit - 1)) ⊗ (var 1 ⊕ var 2))
    refl (nat w ⊠ gap h ⊞ nat support_unit ⊠ nat (suc k) ⊠ (down w).1 ⊞ nat (support_unit * (weight_unit - 1)) ⊠ s)

-- 4 × g, from both sides
pub kept_bounds : (d : ℤ) → (d ≤ℤ (pos support_unit *ℤ kept d)) × ((pos support_unit *ℤ kept d) ≤ℤ (d +ℤ pos (support_unit - 1)))
kept_bounds d = div_up_bounds d support_unit (lit< tt)
