use Rattle.std.proofs.Common.{◌≡◌, ◌+◌, ◌≤◌, ◌++◌, map, length, string_bytes}
use Rattle.std.specs.Iterator.Adapters.{zip_first, zip_second}
use Rattle.std.specs.Slice.Iter.{iter_rest}
use Rattle.report.specs.Reports.{report_from, report_of}
use Rattle.report.proofs.report.render.Given as goal

-- the text so far, and the report on what is left
abbrev pub invariant-loop-answer : goal.invariant-loop-answer
invariant-loop-answer g l =
    let answers = iter_rest (zip_first l.answer-iterator) in
    let blames = map g.B.Blamed.blamed (iter_rest (zip_second l.answer-iterator)) in
    record {
      few : l.index + length answers ≤ length l.answers;
      told : string_bytes l.text ++ report_from l.lists.pairs.now l.lists.places l.fault l.index answers blames ≡ report_of l.lists.pairs.now l.lists.places l.fault l.answers (map g.B.Blamed.blamed l.entries);
    }
