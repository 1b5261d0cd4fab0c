use Rattle.std.proofs.Common.{rules, arith}
use Rattle.placement.proofs.Numbers.{entries_given, ranges}
use Rattle.placement.proofs.parts.Placement.new.Goals as goal

pub returns-in_err-x : goal.returns-in_err-x
returns-in_err-x c = grind (arith, ranges c.args.n (search rules))

pub returns-in_err-y : goal.returns-in_err-y
returns-in_err-y c = grind (arith, ranges c.args.n (search rules))

pub returns-in_err-z : goal.returns-in_err-z
returns-in_err-z c = grind (arith, ranges c.args.n (search rules))

pub returns-in_err-shift : goal.returns-in_err-shift
returns-in_err-shift c = grind (arith, ranges c.args.n (search rules))

pub returns : goal.returns
returns c =
    entries_given (record { x = c.in_ok-x.x; y = c.in_ok-y.y; z = c.in_ok-z.z; shift = c.in_ok-shift.shift }) c.args.n (search rules) (search rules) c.in_ok-x.ensures c.in_ok-y.ensures c.in_ok-z.ensures c.in_ok-shift.ensures
