use Rattle.std.proofs.Common.{◌-◌, take, Ok, sym, ap, ◌∙◌, append_assoc, arith}
use Rattle.std.proofs.lemmas.List.{length-set, take_all, take_more_set}
use Rattle.jobtext.specs.Readings.{numbers, Reads}
use Rattle.jobtext.proofs.Dues.{numbers_done}
use Rattle.jobtext.proofs.Told.{numbers_cases}
use Rattle.words.proofs.Rows.{numbers_first}
use Rattle.words.proofs.taking.Words.numbers.Goals as goal

pub loop-place-preserved : goal.loop-place-preserved
loop-place-preserved g c = grind (arith, numbers_first, length-set, take_more_set, append_assoc)

pub returns : goal.returns
returns g c =
    let i = c.loop-place.place-index in
    let row = c.loop-place.place-items in
    let all = take_all i row (omega (arith, c.loop-place.invariant.0)) in
    let reads : Reads (numbers g.row.N c.args.self.now.section c.args.self.now.taken c.args.self.now.left) (Ok c.loop-place.place-items) c.loop-place.self.left =
    sym c.loop-place.invariant.3 ∙ numbers_done _ _ _ (take i row) (g.row.N - i) (omega arith) ∙ ap (λ zs. Ok (zs, c.loop-place.self.left)) all in
    record {
      section = c.loop-place.invariant.1;
      taken = omega (arith, c.loop-place.invariant.2);
      reads = reads;
      cases = numbers_cases g.row.N _ _ _ _ (Ok row) reads;
    }
