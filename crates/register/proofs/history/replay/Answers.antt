use Rattle.std.proofs.Common.{arith}
use Rattle.std.proofs.lemmas.Grind.{common_steps}
use Rattle.register.proofs.Runs.{replayed_calls}
use Rattle.register.proofs.history.replay.Goals as goal

pub returns : goal.returns
returns g c = record { ran = replayed_calls _ _ _ _ _ _ _ _ _ _ _ _ _ _ c.replay_requests.ensures.ran (grind (arith, common_steps)) }
