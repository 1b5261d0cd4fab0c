-- The products along an axis, as identities.
use Rattle.std.proofs.Common.{◌≡◌, ◌+◌, [], ◌∷◌, ℤ, pos, ◌+ℤ◌, ◌*ℤ◌, neg_ℤ, refl, ap, ◌∙◌, ap₂, arith}
use Rattle.integers.proofs.Order.{nat_abs_neg, nat_abs_mul}
use Rattle.integers.proofs.Ring.{Expr, var, ◌⊕◌, ◌⊗◌, ⊝, #, solve}
use Rattle.hull.specs.declared.corner.Corner.{Corner}
use Rattle.hull.specs.declared.direction.Direction.{Direction}
use Rattle.hull.specs.Directions.{direction}
use Rattle.hull.specs.Measures.{size, along as toward}
use Rattle.placement.specs.declared.parts.Placement.{Placement}
use Rattle.placement.specs.Units.{W, shift_unit}
use Rattle.pairs.specs.Records.{Axis}
use Rattle.pairs.specs.Products.{dot, image, along, image_along, corner_along, shift_along}
use Rattle.pairs.specs.Directions.{moved_direction, standing_direction, opposite, standing_size}
use Rattle.pairs.specs.Facets.{Facet, Weights, Meets, SharesPoint}

-- the sum of three products, as an expression
abbrev pub dots : Expr → Expr → Expr → Expr → Expr → Expr → Expr
dots a b c x y z = a ⊗ x ⊕ b ⊗ y ⊕ c ⊗ z

-- L·X(v) = u·v + 256 × L·T
pub moved_along : (p : Placement) (l : Axis) (v : Corner) → image_along p l v ≡ toward (moved_direction p l) v +ℤ pos shift_unit *ℤ shift_along p l
unfolding moved_direction direction
moved_along p l v =
    solve (p.x.x ∷ p.x.y ∷ p.x.z ∷ p.y.x ∷ p.y.y ∷ p.y.z ∷ p.z.x ∷ p.z.y ∷ p.z.z ∷ p.shift.x ∷ p.shift.y ∷ p.shift.z ∷ l.x ∷ l.y ∷ l.z ∷ v.x ∷ v.y ∷ v.z ∷ [])
    (axis (row (var 0) (var 1) (var 2) (var 9)) (row (var 3) (var 4) (var 5) (var 10)) (row (var 6) (var 7) (var 8) (var 11)))
    (dots (axis (var 0) (var 3) (var 6)) (axis (var 1) (var 4) (var 7)) (axis (var 2) (var 5) (var 8)) (var 15) (var 16) (var 17) ⊕ # shift_unit ⊗ axis (var 9) (var 10) (var 11))
    refl
  where
    axis : Expr → Expr → Expr → Expr
    axis x y z = dots (var 12) (var 13) (var 14) x y z

    row : Expr → Expr → Expr → Expr → Expr
    row x y z t = dots x y z (var 15) (var 16) (var 17) ⊕ # shift_unit ⊗ t

-- (W L)·w = W × L·w
pub standing_along : (l : Axis) (w : Corner) → toward (standing_direction l) w ≡ corner_along l w
unfolding standing_direction direction
standing_along l w =
    solve (l.x ∷ l.y ∷ l.z ∷ w.x ∷ w.y ∷ w.z ∷ []) (dots (# W ⊗ var 0) (# W ⊗ var 1) (# W ⊗ var 2) (var 3) (var 4) (var 5))
    (# W ⊗ dots (var 0) (var 1) (var 2) (var 3) (var 4) (var 5)) refl

-- (-u)·v = -(u·v)
pub opposite_along : (u : Direction) (v : Corner) → toward (opposite u) v ≡ neg_ℤ (toward u v)
unfolding opposite direction
opposite_along u v =
    solve (u.x ∷ u.y ∷ u.z ∷ v.x ∷ v.y ∷ v.z ∷ []) (dots (⊝ (var 0)) (⊝ (var 1)) (⊝ (var 2)) (var 3) (var 4) (var 5))
    (⊝ (dots (var 0) (var 1) (var 2) (var 3) (var 4) (var 5))) refl

-- |-u| = |u|
pub opposite_size : (u : Direction) → size (opposite u) ≡ size u
unfolding opposite direction
opposite_size u = ap₂ ◌+◌ (ap₂ ◌+◌ (nat_abs_neg u.x) (nat_abs_neg u.y)) (nat_abs_neg u.z)

-- |W L| = W × |L|
pub standing_size_is : (l : Axis) → size (standing_direction l) ≡ standing_size l
unfolding standing_direction direction
standing_size_is l =
    ap₂ ◌+◌ (ap₂ ◌+◌ (nat_abs_mul (pos W) l.x) (nat_abs_mul (pos W) l.y)) (nat_abs_mul (pos W) l.z) ∙ omega arith

-- a point that facets share, along an axis
met : (l : Axis) (m : Weights) (x0 x1 x2 y0 y1 y2 z0 z1 z2 : ℤ) (w : Facet) → Meets m x0 x1 x2 w.v0.x w.v1.x w.v2.x → Meets m y0 y1 y2 w.v0.y w.v1.y w.v2.y → Meets m z0 z1 z2 w.v0.z w.v1.z w.v2.z → pos (m.b0 + m.b1 + m.b2) *ℤ dot (pos m.a0) (pos m.a1) (pos m.a2) (along l x0 y0 z0) (along l x1 y1 z1) (along l x2 y2 z2) ≡ pos (m.a0 + m.a1 + m.a2) *ℤ dot (pos m.b0) (pos m.b1) (pos m.b2) (corner_along l w.v0) (corner_along l w.v1) (corner_along l w.v2)
met l m x0 x1 x2 y0 y1 y2 z0 z1 z2 w ex ey ez =
    solve (l.x ∷ l.y ∷ l.z ∷ pos (m.b0 + m.b1 + m.b2) ∷ pos m.a0 ∷ pos m.a1 ∷ pos m.a2 ∷ x0 ∷ x1 ∷ x2 ∷ y0 ∷ y1 ∷ y2 ∷ z0 ∷ z1 ∷ z2 ∷ [])
    (var 3 ⊗ mix (axis (var 7) (var 10) (var 13)) (axis (var 8) (var 11) (var 14)) (axis (var 9) (var 12) (var 15)))
    (axis (var 3 ⊗ mix (var 7) (var 8) (var 9)) (var 3 ⊗ mix (var 10) (var 11) (var 12)) (var 3 ⊗ mix (var 13) (var 14) (var 15))) refl
    ∙ ap₂ ◌+ℤ◌ (ap₂ ◌+ℤ◌ (ap (λ (k : ℤ). l.x *ℤ k) ex) (ap (λ (k : ℤ). l.y *ℤ k) ey)) (ap (λ (k : ℤ). l.z *ℤ k) ez)
    ∙ solve (l.x ∷ l.y ∷ l.z ∷ pos (m.a0 + m.a1 + m.a2) ∷ pos m.b0 ∷ pos m.b1 ∷ pos m.b2 ∷ w.v0.x ∷ w.v1.x ∷ w.v2.x ∷ w.v0.y ∷ w.v1.y ∷ w.v2.y ∷ w.v0.z ∷ w.v1.z ∷ w.v2.z ∷ [])
    (axis (var 3 ⊗ # W ⊗ mix (var 7) (var 8) (var 9)) (var 3 ⊗ # W ⊗ mix (var 10) (var 11) (var 12)) (var 3 ⊗ # W ⊗ mix (var 13) (var 14) (var 15)))
    (var 3 ⊗ mix (# W ⊗ axis (var 7) (var 10) (var 13)) (# W ⊗ axis (var 8) (var 11) (var 14)) (# W ⊗ axis (var 9) (var 12) (var 15))) refl
  where
    axis : Expr → Expr → Expr → Expr
    axis x y z = dots (var 0) (var 1) (var 2) x y z

    mix : Expr → Expr → Expr → Expr
    mix x y z = dots (var 4) (var 5) (var 6) x y z

pub shared_along : (p : Placement) (l : Axis) (v w : Facet) (s : SharesPoint p v w) → pos (s.weights.b0 + s.weights.b1 + s.weights.b2) *ℤ dot (pos s.weights.a0) (pos s.weights.a1) (pos s.weights.a2) (image_along p l v.v0) (image_along p l v.v1) (image_along p l v.v2) ≡ pos (s.weights.a0 + s.weights.a1 + s.weights.a2) *ℤ dot (pos s.weights.b0) (pos s.weights.b1) (pos s.weights.b2) (corner_along l w.v0) (corner_along l w.v1) (corner_along l w.v2)
shared_along p l v w s =
    met l s.weights (image p.x p.shift.x v.v0) (image p.x p.shift.x v.v1) (image p.x p.shift.x v.v2) (image p.y p.shift.y v.v0) (image p.y p.shift.y v.v1) (image p.y p.shift.y v.v2) (image p.z p.shift.z v.v0) (image p.z p.shift.z v.v1) (image p.z p.shift.z v.v2) w s.in_x s.in_y s.in_z
