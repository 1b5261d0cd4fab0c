use Rattle.std.proofs.Common.{◌≡◌, ℕ, ◌≤◌, false, length, pos, ◌∙◌, inr, arith, w64, SFits, rules}
use Rattle.std.proofs.lemmas.Int.{to_z-of_z}
use Rattle.book.specs.Books.{joinable}
use Rattle.book.proofs.Forest.{joins_yes}
use Rattle.book.proofs.Joining.{joins_past_left, joins_past_right, joins_pos, joinable_left, joinable_right, joinable_same}
use Rattle.register.specs.Tables.{items_of}
use Rattle.register.proofs.Fields.{length_items}
use Rattle.register.proofs.Reading.{tied_read}
use Rattle.register.proofs.ties.free_parts.Goals as goal
use Rattle.register.proofs.ties.free_parts.Goals.{then-i-j-via-then-i-j, then-i-j-via-else-i-j+then-left, then-i-j-via-else-i-j+else-left+then-right}

pub returns-in_err-i : goal.returns-in_err-i
returns-in_err-i g c =
    let t = c.args.page.now in
    let f : SFits w64 c.args.x = search rules in
    let past : (k : ℕ) → c.args.x ≡ pos k → length t ≤ k = simp to_z-of_z at c.in_err-i.ensures in
    rw c.from_residual.ensures (joins_past_left (items_of t) c.args.x c.args.y (λ k e. omega (arith, length_items t, past k e)))

pub returns-in_err-j : goal.returns-in_err-j
returns-in_err-j g c =
    let t = c.args.page.now in
    let f : SFits w64 c.args.y = search rules in
    let past : (k : ℕ) → c.args.y ≡ pos k → length t ≤ k = simp to_z-of_z at c.in_err-j.ensures in
    rw c.from_residual-in_err-j.ensures (joins_past_right (items_of t) c.args.x c.args.y (λ k e. omega (arith, length_items t, past k e)))

pub returns-then-i-j : goal.returns-then-i-j
returns-then-i-j g c =
    let t = c.args.page.now in
    let p = items_of t in
    let i = c.in_ok-i.i in
    let j = c.in_ok-j.j in
    let fx : SFits w64 c.args.x = search rules in
    let fy : SFits w64 c.args.y = search rules in
    let ex : c.args.x ≡ pos i = simp to_z-of_z at c.in_ok-i.ensures.0 in
    let ey : c.args.y ≡ pos j = simp to_z-of_z at c.in_ok-j.ensures.0 in
    let no : joinable p i j ≡ false = elim c.then-i-j.branch [
      | then-i-j-via-then-i-j w ↦ joinable_same p i j w.if-i-j.true
      | then-i-j-via-else-i-j+then-left w ↦ joinable_left p i j (inr (tied_read t i c.index-page-i.result c.in_ok-i.ensures.1 c.index-page-i.is c.requires ∙ w.if-left.true))
      | then-i-j-via-else-i-j+else-left+then-right w ↦ joinable_right p i j (inr (tied_read t j c.index-page-j.result c.in_ok-j.ensures.1 c.index-page-j.is c.requires ∙ w.if-right.true))
    ] in
    joins_pos p i j _ _ ex ey ∙ no

pub returns : goal.returns
returns g c =
    let t = c.args.page.now in
    let i = c.in_ok-i.i in
    let j = c.in_ok-j.j in
    let fx : SFits w64 c.args.x = search rules in
    let fy : SFits w64 c.args.y = search rules in
    let hi = c.in_ok-i.ensures.1 in
    let hj = c.in_ok-j.ensures.1 in
    record {
      x_is = simp to_z-of_z at c.in_ok-i.ensures.0;
      y_is = simp to_z-of_z at c.in_ok-j.ensures.0;
      free = joins_yes (items_of t) i j (record {
        differ = c.if-i-j.false;
        x_in = omega (arith, length_items t, hi);
        y_in = omega (arith, length_items t, hj);
        x_free = tied_read t i c.index-page-i.result hi c.index-page-i.is c.requires ∙ c.if-left.false;
        y_free = tied_read t j c.index-page-j.result hj c.index-page-j.is c.requires ∙ c.if-right.false;
      });
    }
