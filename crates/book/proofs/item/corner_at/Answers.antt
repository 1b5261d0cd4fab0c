use Rattle.std.proofs.Common.{◌≡◌, ◌+◌, true, false, get_or, ℤ, pos, Some, None, Option, w64, SFits, rules, MatchOption}
use Rattle.std.proofs.lemmas.Int.{to_z-of_z}
use Rattle.hull.specs.Units.{corner_limit, Within}
use Rattle.hull.specs.declared.corner.Corner.{Corner}
use Rattle.book.specs.Facets.{fits_corner, corner, fits_at, corner_from}
use Rattle.book.proofs.Corners.{corner_fits, corner_is, out_of_range}
use Rattle.book.proofs.item.corner_at.Goals as goal

judged : (x y z : ℤ) (o : Option Corner) → MatchOption o (Within corner_limit x y z → ⊥) (λ p. (p.x ≡ x) × (p.y ≡ y) × (p.z ≡ z))
    → MatchOption o (fits_corner x y z ≡ false) (λ p. (fits_corner x y z ≡ true) × (p ≡ corner x y z))
judged x y z None h = out_of_range x y z h
judged x y z (Some p) h = (corner_fits p x y z h.0 h.1 h.2, corner_is p x y z h.0 h.1 h.2)

pub returns : goal.returns
unfolding fits_at corner_from
returns c =
    let n = c.args.numbers.now in
    let k = c.args.at in
    let fx : SFits w64 (get_or n k (pos 0)) = search rules in
    let fy : SFits w64 (get_or n (k + 1) (pos 0)) = search rules in
    let fz : SFits w64 (get_or n (k + 2) (pos 0)) = search rules in
    judged _ _ _ c.new.result (simp to_z-of_z at c.new.ensures)
