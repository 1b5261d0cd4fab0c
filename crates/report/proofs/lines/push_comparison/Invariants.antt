use Rattle.std.proofs.Common.{◌≡◌, ◌++◌, drop, string_bytes}
use Rattle.std.specs.List.{flat_map}
use Rattle.report.specs.Reports.{placement_line, pair_line}
use Rattle.report.proofs.lines.push_comparison.Given as goal

-- the text so far and the lines of the pairs that are left
abbrev pub invariant-loop-moved : goal.invariant-loop-moved
invariant-loop-moved l =
    string_bytes l.text ++ flat_map pair_line (drop l.moved-index l.pairs) ≡ string_bytes l.fn.text ++ (placement_line l.fn.index l.fn.count l.fn.tests ++ flat_map pair_line l.pairs)
