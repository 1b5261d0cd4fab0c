use Rattle.std.proofs.Common.{Err, ap, ◌∙◌}
use Rattle.register.specs.Registers.{book_of}
use Rattle.bench.proofs.Drafts.{close_here, drop_here}
use Rattle.bench.proofs.entry.enter.Goals as goal

pub unwrap-requires : goal.unwrap-requires
unwrap-requires g c =
    let entry = c.rows-entry-2.result.0 in
    drop_here (book_of entry.register.now) _ entry.draft.mark entry.kept c.drop.result c.drop.ensures.said

pub unreachable-requires : goal.unreachable-requires
unreachable-requires g c =
    let entry = c.rows-entry-2.result.0 in
    close_here (book_of entry.register.now) _ entry.draft.mark entry.kept c.close.result _
    (c.in-Err-NotThisDraft.is ∙ ap Err c.in-Err-NotThisDraft.field-0-is)
    c.close.ensures.said
