use Rattle.std.proofs.lemmas.Bool.{and_from, and_left, and_right}
use Rattle.book.specs.Facets.{fits_at, within, facet_of}
use Rattle.book.proofs.item.Facet.new.Goals as goal

pub returns-in_err-a : goal.returns-in_err-a
unfolding within
returns-in_err-a c = rw c.from_residual.ensures (and_left _ _ c.in_err-a.ensures)

pub returns-in_err-b : goal.returns-in_err-b
unfolding within
returns-in_err-b c = let n = c.args.numbers in rw c.from_residual-in_err-b.ensures (and_right (fits_at n 0) _ (and_left _ (fits_at n 6) c.in_err-b.ensures))

pub returns-in_err-c : goal.returns-in_err-c
unfolding within
returns-in_err-c c = let n = c.args.numbers in rw c.from_residual-in_err-c.ensures (and_right (fits_at n 0) _ (and_right (fits_at n 3) _ c.in_err-c.ensures))

pub returns : goal.returns
unfolding within facet_of
returns c =
    let a = c.in_ok-a.ensures in
    let b = c.in_ok-b.ensures in
    let d = c.in_ok-c.ensures in
    (and_from _ _ a.0 (and_from _ _ b.0 d.0), λ i. record { a = a.1 i; b = b.1 i; c = d.1 i })
