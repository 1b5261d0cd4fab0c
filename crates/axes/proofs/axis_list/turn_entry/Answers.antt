use Rattle.std.proofs.Common.{◌≡◌, ℤ, sym, ap, ◌∙◌, subst, lit<, w16, w64, SFits, rules}
use Rattle.std.proofs.lemmas.Int.{to_z-of_z}
use Rattle.integers.specs.Rounding.{div_down}
use Rattle.integers.proofs.Fits.{fits, read}
use Rattle.placement.specs.Units.{matrix_limit}
use Rattle.pairs.specs.Units.{axis_limit, axis_unit}
use Rattle.pairs.specs.Axes.{as_axis, turned_entry, turned_small}
use Rattle.pairs.proofs.Words.{word, product_read}
use Rattle.axes.proofs.axis_list.turn_entry.Goals as goal

value : (c : goal.After-floor) → word w64 c.floor.result ≡ turned_entry c.args.r.now c.args.a.now
unfolding as_axis
value c =
    let r = c.args.r.now in
    let a = c.args.a.now in
    let f : SFits w64 c.product.result = search rules in
    let e =
    to_z-of_z w64 c.product.result f ∙ c.product.ensures
    ∙ product_read matrix_limit (lit< tt) (as_axis a) r.x r.y r.z r.x_in r.y_in r.z_in in
    ap (word w64) (c.floor.ensures ∙ ap (λ (z : ℤ). div_down z axis_unit) e) ∙ read w64 (turned_entry r a) axis_limit (turned_small r a) (lit< tt)

pub overflow_cast-result : goal.overflow_cast-result
overflow_cast-result c =
    let r = c.args.r.now in
    let a = c.args.a.now in
    subst (SFits w16) (sym (value c)) (fits w16 (turned_entry r a) axis_limit (turned_small r a) (lit< tt))

pub returns : goal.returns
returns c =
    let r = c.args.r.now in
    let a = c.args.a.now in
    ap (word w16) (value c) ∙ read w16 (turned_entry r a) axis_limit (turned_small r a) (lit< tt)
