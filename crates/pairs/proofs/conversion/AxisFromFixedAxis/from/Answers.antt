use Rattle.std.proofs.Common.{lit<, w16}
use Rattle.integers.proofs.Fits.{read}
use Rattle.pairs.specs.Units.{fixed_limit}
use Rattle.pairs.specs.Axes.{as_axis}
use Rattle.pairs.proofs.Same.{same_axis}
use Rattle.pairs.proofs.conversion.AxisFromFixedAxis.from.Goals as goal

pub returns : goal.returns
unfolding as_axis
returns c =
    let a = c.args.a in
    same_axis _ (as_axis a) (read w16 a.x fixed_limit a.x_in (lit< tt)) (read w16 a.y fixed_limit a.y_in (lit< tt)) (read w16 a.z fixed_limit a.z_in (lit< tt))
