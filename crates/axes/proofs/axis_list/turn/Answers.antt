use Rattle.std.proofs.Common.{◌≡◌, ◌≤◌, ℤ, nat_abs, sym, ap, ◌∙◌, subst, lit<, w16}
use Rattle.integers.proofs.Fits.{read}
use Rattle.placement.specs.Parts.{Row}
use Rattle.pairs.specs.Records.{FixedAxis}
use Rattle.pairs.specs.Units.{axis_limit}
use Rattle.pairs.specs.Axes.{turned, turned_entry, turned_small}
use Rattle.pairs.proofs.Same.{same_axis}
use Rattle.pairs.proofs.Words.{word}
use Rattle.axes.proofs.axis_list.turn.Goals as goal

module _ (r : Row) (a : FixedAxis) (z : ℤ) (e : z ≡ turned_entry r a) where
  value : word w16 z ≡ turned_entry r a
  value = ap (word w16) e ∙ read w16 (turned_entry r a) axis_limit (turned_small r a) (lit< tt)

  bound : nat_abs (word w16 z) ≤ axis_limit
  bound = subst (λ (k : ℤ). nat_abs k ≤ axis_limit) (sym value) (turned_small r a)

pub invariant_of-result : goal.invariant_of-result
invariant_of-result c =
    let p = c.args.p.now in
    let a = c.args.a.now in
    record {
      x_in = bound p.x a c.turn_entry.result c.turn_entry.ensures;
      y_in = bound p.y a c.turn_entry-2.result c.turn_entry-2.ensures;
      z_in = bound p.z a c.turn_entry-3.result c.turn_entry-3.ensures;
    }

pub returns : goal.returns
unfolding turned
returns c =
    let p = c.args.p.now in
    let a = c.args.a.now in
    same_axis _ (turned p a) (value p.x a c.turn_entry.result c.turn_entry.ensures) (value p.y a c.turn_entry-2.result c.turn_entry-2.ensures) (value p.z a c.turn_entry-3.result c.turn_entry-3.ensures)
