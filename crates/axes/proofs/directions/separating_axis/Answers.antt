use Rattle.std.proofs.Common.{◌≡◌, ℕ, ◌*◌, ◌≤◌, ℤ, pos, ◌*ℤ◌, nat_abs, sym, ap, ◌∙◌, subst, arith, lit<, w64, SFits}
use borrow.Author.Differences.{ints}
use Rattle.placement.specs.Units.{shift_limit}
use Rattle.pairs.specs.Units.{axis_limit, shift_ratio}
use Rattle.pairs.specs.Products.{shift_along, dot_small}
use Rattle.pairs.specs.Directions.{opposite, separating}
use Rattle.pairs.proofs.Words.{word, product_read}
use Rattle.axes.proofs.directions.separating_axis.Goals as goal

abbrev limit : ℕ
limit = 3 * (axis_limit * shift_limit)

scaled_fits : (z : ℤ) → nat_abs z ≤ limit → SFits w64 (pos shift_ratio *ℤ word w64 z)
scaled_fits z h = omega (arith, ints)

scaled_read : (z : ℤ) → nat_abs z ≤ limit → word w64 (pos shift_ratio *ℤ word w64 z) ≡ pos shift_ratio *ℤ z
scaled_read z h = omega (arith, ints)

value : (c : goal.After-product) → c.product.result ≡ shift_along c.args.p.now c.args.l.now
value c =
    let t = c.args.p.now.shift in
    c.product.ensures ∙ product_read shift_limit (lit< tt) c.args.l.now t.x t.y t.z t.x_in t.y_in t.z_in

small : (c : goal.After-product) → nat_abs c.product.result ≤ limit
small c =
    let l = c.args.l.now in
    let t = c.args.p.now.shift in
    subst (λ (z : ℤ). nat_abs z ≤ limit) (sym (value c)) (dot_small axis_limit shift_limit l.x l.y l.z t.x t.y t.z l.x_in l.y_in l.z_in t.x_in t.y_in t.z_in)

pub overflow_mul-result : goal.overflow_mul-result
overflow_mul-result c = scaled_fits c.product.result (small c)

pub returns : goal.returns
unfolding separating
returns c =
    let e = scaled_read c.product.result (small c) ∙ ap (λ (z : ℤ). pos shift_ratio *ℤ z) (value c) in
    let a = c.reverse.ensures ∙ ap opposite c.moved-moved_up.ensures in
    let b = c.reverse-2.ensures ∙ ap opposite c.standing-standing_up.ensures in
    cc
