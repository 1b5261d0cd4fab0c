use Rattle.std.proofs.Common.{lit<}
use Rattle.hull.specs.Directions.{direction}
use Rattle.hull.specs.Units.{direction_limit}
use Rattle.pairs.specs.Directions.{opposite}
use Rattle.pairs.proofs.Words.{neg_read}
use Rattle.pairs.proofs.Entries.{made_of}
use Rattle.axes.proofs.directions.reverse.Goals as goal

pub returns : goal.returns
unfolding opposite direction
returns c =
    let u = c.args.u.now in
    made_of (opposite u) (neg_read u.x direction_limit u.x_in (lit< tt), neg_read u.y direction_limit u.y_in (lit< tt), neg_read u.z direction_limit u.z_in (lit< tt)) c.direction.result c.direction.ensures
