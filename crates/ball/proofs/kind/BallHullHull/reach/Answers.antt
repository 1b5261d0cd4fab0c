use Rattle.std.proofs.Common.{◌≡◌, ℕ, ◌*◌, ◌^◌, ℤ, pos, ◌+ℤ◌, ap, ◌∙◌, ap₂, lit<, w64, SFits, rules}
use mir.Syntax.{w128}
use Rattle.std.proofs.lemmas.Int.{to_z-of_z}
use Rattle.integers.specs.Rounding.{div_up}
use Rattle.integers.proofs.Fits.{sum_is}
use Rattle.hull.specs.Units.{corner_limit, direction_limit, reach_unit}
use Rattle.ball.specs.Balls.{reach_of_ball}
use Rattle.ball.proofs.kind.BallHullHull.reach.Goals as goal

pub returns : goal.returns
returns c =
    let h = c.args.self.now in
    let u = c.args.u.now in
    let s = sum_is w128 c.dot.result c.extent.result (3 * (direction_limit * corner_limit)) (2 ^ 64) c.dot.ensures.bound c.extent.ensures.bound (lit< tt) in
    let t = ap₂ ◌+ℤ◌ c.dot.ensures.value (c.extent.ensures.value ∙ ap (λ (n : ℕ). pos (h.radius * n)) u.as_long) in
    let e : c.in_units.result ≡ reach_of_ball h u = c.in_units.ensures ∙ ap (λ (z : ℤ). div_up z reach_unit) (s ∙ t) in
    let f : SFits w64 c.in_units.result = search rules in
    simp to_z-of_z e
