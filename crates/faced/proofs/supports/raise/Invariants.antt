use Rattle.std.proofs.Common.{◌≡◌}
use Rattle.support.specs.Supports.{supports}
use Rattle.support.proofs.Tables.{raised_to}
use Rattle.faced.proofs.supports.raise.Given as goal

abbrev pub invariant-loop-i : goal.invariant-loop-i
invariant-loop-i g l = l.values ≡ raised_to l.i l.initial.values (supports l.p)
