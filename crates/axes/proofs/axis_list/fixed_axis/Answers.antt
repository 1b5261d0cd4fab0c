use Rattle.std.proofs.Common.{◌≡◌, ℕ, ◌<◌, ◌≤◌, map, get_or, ℤ, nat_abs, ap, ◌∙◌, lit<, w16}
use Rattle.std.proofs.lemmas.List.{get_or-map}
use Rattle.integers.proofs.Fits.{read}
use Rattle.pairs.specs.Records.{FixedAxis}
use Rattle.pairs.specs.Units.{fixed_count, fixed_limit}
use Rattle.pairs.specs.Axes.{fixed_axes, no_fixed}
use Rattle.pairs.proofs.Same.{same_axis}
use Rattle.pairs.proofs.Words.{word}
use Rattle.axes.proofs.axis_list.fixed_axis.Goals as goal

-- the code's table computes to the entries of the fixed axes
abbrev entries : FixedAxis → ℤ × ℤ × ℤ
entries a = (a.x, a.y, a.z)

-- an entry of a row of the table
read_at : (i : ℕ) → i < fixed_count → (part : ℤ × ℤ × ℤ → ℤ) → nat_abs (part (entries (get_or fixed_axes i no_fixed))) ≤ fixed_limit → word w16 (part (get_or (map entries fixed_axes) i (entries no_fixed))) ≡ part (entries (get_or fixed_axes i no_fixed))
read_at i h part k =
    ap (λ (r : ℤ × ℤ × ℤ). word w16 (part r)) (get_or-map entries fixed_axes i no_fixed (entries no_fixed) h)
    ∙ read w16 (part (entries (get_or fixed_axes i no_fixed))) fixed_limit k (lit< tt)

pub returns : goal.returns
returns c =
    let i = c.args.i in
    let a = get_or fixed_axes i no_fixed in
    same_axis _ a (read_at i c.requires (λ r. r.0) a.x_in) (read_at i c.requires (λ r. r.1) a.y_in) (read_at i c.requires (λ r. r.2) a.z_in)
