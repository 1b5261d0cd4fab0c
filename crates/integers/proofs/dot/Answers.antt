use Rattle.std.proofs.Common.{◌*◌, ◌^◌, ◌≤◌, ℤ, ◌+ℤ◌, nat_abs, sym, ◌∙◌, subst, ap₂, lit<}
use mir.Syntax.{w128}
use Rattle.std.proofs.lemmas.Int.{to_z-of_z}
use Rattle.integers.proofs.Fits.{sum3_fits, sum3_is, sum3_small}
use Rattle.integers.proofs.dot.Goals as goal

pub overflow_add-result-2 : goal.overflow_add-result-2
overflow_add-result-2 c = sum3_fits w128 c.product.result c.product-2.result c.product-3.result (2 ^ 94) c.product.ensures.bound c.product-2.ensures.bound c.product-3.ensures.bound (lit< tt)

pub returns : goal.returns
returns c =
    let fa = c.ranges.a in
    let fb = c.ranges.b in
    let fc = c.ranges.c in
    let fx = c.ranges.x in
    let fy = c.ranges.y in
    let fz = c.ranges.z in
    let s = sum3_is w128 c.product.result c.product-2.result c.product-3.result (2 ^ 94) c.product.ensures.bound c.product-2.ensures.bound c.product-3.ensures.bound (lit< tt) in
    record {
      value = s ∙ ap₂ ◌+ℤ◌ (ap₂ ◌+ℤ◌ (simp to_z-of_z at c.product.ensures.value) (simp to_z-of_z at c.product-2.ensures.value)) (simp to_z-of_z at c.product-3.ensures.value);
      bound = subst (λ (z : ℤ). nat_abs z ≤ 3 * 2 ^ 94) (sym s) (sum3_small c.product.result c.product-2.result c.product-3.result (2 ^ 94) c.product.ensures.bound c.product-2.ensures.bound c.product-3.ensures.bound);
    }
