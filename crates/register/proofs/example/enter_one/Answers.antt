use Rattle.std.proofs.Common.{arith}
use Rattle.std.proofs.lemmas.Result.{err_from_is_err_and}
use Rattle.register.proofs.Alone.{not_started, dropped, not_dropped, closes, table_stands}
use Rattle.register.proofs.example.enter_one.Goals as goal

pub returns-in_err-draft-clause-book : goal.returns-in_err-draft-clause-book
returns-in_err-draft-clause-book g c =
    let s = c.in_err-draft.ensures in
    let p = err_from_is_err_and c.from_residual.result c.from_residual.ensures.1 in
    rw (p.1, p.2) (not_started _ _ _ _ s.said)

pub returns-in-Ok-clause-book : goal.returns-in-Ok-clause-book
returns-in-Ok-clause-book g c =
    let s = c.in_ok-draft.ensures in
    let f = c.facet-answer.ensures in
    let d = c.close.ensures in
    let k = closes _ _ _ s.said _ _ s.marked f.back _ _ f.said _ c.in-Ok.is _ _ d.said in
    grind (arith, k.1)

pub returns-in-Ok-clause-table : goal.returns-in-Ok-clause-table
returns-in-Ok-clause-table g c =
    let s = c.in_ok-draft.ensures in
    let f = c.facet-answer.ensures in
    let d = c.close.ensures in
    let k = closes _ _ _ s.said _ _ s.marked f.back _ _ f.said _ c.in-Ok.is _ _ d.said in
    let t = table_stands c.args.register.now c.start.new.self c.facet-answer.new.register c.close.new.register s.table d.table g.H.Hull.begun g.H.Hull.grown _ _ f.place _ c.in-Ok.is s.said in
    grind (arith, k.1, t)

pub returns-in-Ok-drop-clause-book : goal.returns-in-Ok-drop-clause-book
returns-in-Ok-drop-clause-book g c =
    let s = c.in_ok-draft.ensures in
    let f = c.facet-answer.ensures in
    let d = c.drop.ensures in
    dropped _ _ _ s.said _ _ s.marked f.back _ _ f.said _ c.in-Err.is _ _ d.said

pub returns-in-Err-drop : goal.returns-in-Err-drop
returns-in-Err-drop g c =
    let s = c.in_ok-draft.ensures in
    let f = c.facet-answer.ensures in
    not_dropped _ _ _ s.said _ _ s.marked f.back _ _ f.said _ c.in-Err.is _ _ c.in-Err-drop.ensures.said
