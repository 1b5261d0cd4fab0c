use Rattle.std.proofs.Common.{◌≡◌, ℕ, ◌+◌, ◌<◌, ◌≤◌, List, length, get_or, set, ℤ, pos, ap, ◌∙◌, ap₂, rules}
use Rattle.std.specs.Int.{int_max}
use Rattle.support.proofs.Tables.{raised_to, raised_read, raised_more, raised_all, supports_length}
use Rattle.faced.proofs.supports.raise.Goals as goal

-- one more support value is raised
raised_step : (i : ℕ) (g s vs : List ℤ) (z : ℤ) → vs ≡ raised_to i g s → i < length g → length g ≤ length s → z ≡ int_max (get_or vs i (pos 0)) (get_or s i (pos 0)) → set vs i z ≡ raised_to (i + 1) g s
raised_step i g s vs z so_far h l is =
    let old : get_or vs i (pos 0) ≡ get_or g i (pos 0) = ap (λ (k : List ℤ). get_or k i (pos 0)) so_far ∙ raised_read i g s h l in
    ap₂ (λ (k : List ℤ) (y : ℤ). set k i y) so_far (is ∙ ap (λ (y : ℤ). int_max y (get_or s i (pos 0))) old) ∙ raised_more i g s h l

pub loop-i-preserved : goal.loop-i-preserved
loop-i-preserved g c = search (rules, raised_step, supports_length)

pub returns : goal.returns
returns g c =
    let n : length c.args.values.now ≡ g.row.N = search rules in
    c.loop-i.invariant ∙ raised_all c.loop-i.i c.args.values.now c.args.p.now (rw n c.loop-i-test.false)
