use Rattle.hull.specs.Directions.{direction}
use Rattle.pairs.specs.Directions.{standing_direction}
use Rattle.pairs.proofs.Words.{times_read}
use Rattle.pairs.proofs.Entries.{made_of}
use Rattle.axes.proofs.directions.standing.Goals as goal

pub returns : goal.returns
unfolding standing_direction direction
returns c =
    let l = c.args.l.now in
    made_of (standing_direction l) (times_read l.x l.x_in, times_read l.y l.y_in, times_read l.z l.z_in) c.direction.result c.direction.ensures
