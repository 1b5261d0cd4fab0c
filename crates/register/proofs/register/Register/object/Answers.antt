use Rattle.std.proofs.Common.{◌≡◌, ℕ, ◌<◌, ◌≤◌, length, get_or, pos, sym, ap, ◌∙◌, arith, w64, SFits, rules}
use Rattle.std.proofs.lemmas.Int.{to_z-of_z}
use Rattle.hull.specs.declared.kind.Hull as hull
use Rattle.book.specs.declared.ledger.Span.{Span}
use Rattle.book.specs.Ledgers.{slice}
use Rattle.register.specs.declared.register.Register.{Register}
use Rattle.register.specs.Comparing.{places_of}
use Rattle.register.proofs.Shelf.{closed_no, closed_yes, places_at, ends}
use Rattle.register.proofs.register.Register.object.Goals as goal

no_span : Span
no_span = record { from = 0; to = 0 }

-- the span lies within the table
within : {H : Type 0} {kind : hull.Ghosts H} (r : Register H kind) (k : ℕ) → k < r.ledger.closed → (d : Span) → ((get_or r.ledger.spans k d).from ≤ (get_or r.ledger.spans k d).to) × ((get_or r.ledger.spans k d).to ≤ length r.table.now)
within r k l d = let e = ends r k l d in (e.0, omega (arith, e.1, r.placed))

pub returns-in_err-k : goal.returns-in_err-k
returns-in_err-k g c =
    let f : SFits w64 c.args.number = search rules in
    rw c.from_residual.ensures (closed_no c.args.self.now c.args.number (simp to_z-of_z at c.in_err-k.ensures))

pub offset_bounds-table-from : goal.offset_bounds-table-from
offset_bounds-table-from g c = let e = within c.args.self.now c.in_ok-k.k c.in_ok-k.ensures.1 (record { from = 0; to = 0 }) in omega arith

pub slice_bounds-result-count : goal.slice_bounds-result-count
slice_bounds-result-count g c = (within c.args.self.now c.in_ok-k.k c.in_ok-k.ensures.1 (record { from = 0; to = 0 })).0

pub slice_bounds-result-start : goal.slice_bounds-result-start
slice_bounds-result-start g c = let e = within c.args.self.now c.in_ok-k.k c.in_ok-k.ensures.1 (record { from = 0; to = 0 }) in search rules

pub returns : goal.returns
unfolding slice
returns g c =
    let f : SFits w64 c.args.number = search rules in
    let n : c.args.number ≡ pos c.in_ok-k.k = simp to_z-of_z at c.in_ok-k.ensures.0 in
    let l = c.in_ok-k.ensures.1 in
    let d : Span = record { from = 0; to = 0 } in
    (closed_yes c.args.self.now c.args.number c.in_ok-k.k n l, sym (ap (places_of c.args.self.now) n ∙ places_at c.args.self.now c.in_ok-k.k l d))
