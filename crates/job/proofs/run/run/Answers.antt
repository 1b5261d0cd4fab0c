use Rattle.std.proofs.Common.{rules}
use Rattle.job.proofs.Printing.{replay_prints}
use Rattle.job.proofs.run.run.Goals as goal

pub returns : goal.returns
returns g c =
    replay_prints _ c.args.entries.now _ c.replay_requests.ensures.ran c.render.ensures.renders (search rules) c.replay_requests.auto.answers (search rules) (search rules)
