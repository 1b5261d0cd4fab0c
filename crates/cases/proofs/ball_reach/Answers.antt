use Rattle.std.proofs.Common.{◌≡◌, ℤ, pos, Some, ap, ◌∙◌, ap₂, w64}
use Rattle.std.proofs.lemmas.Int.{to_z-of_z}
use Rattle.hull.specs.Directions.{direction}
use Rattle.hull.proofs.Same.{same_corner, same_direction}
use Rattle.ball.specs.Balls.{ball_begun, ball_grown, reach_of_ball}
use Rattle.cases.specs.Worked.{corner, origin, ball_with, upward}
use Rattle.cases.proofs.WorkedOut.{worked}
use Rattle.cases.proofs.ball_reach.Goals as goal

pub returns : goal.returns
unfolding direction
returns c =
    let o = c.in_ok-origin.ensures in
    let p = c.in_ok-p.ensures in
    let u = c.in_ok-up.ensures in
    let at-o : c.in_ok-origin.origin ≡ origin = same_corner c.in_ok-origin.origin origin o.0 o.1 o.2 in
    let at_p : c.in_ok-p.p ≡ corner (pos 3) (pos 4) (pos 0) tt tt tt = same_corner c.in_ok-p.p (corner (pos 3) (pos 4) (pos 0) tt tt tt) p.0 p.1 p.2 in
    let ball : c.more-2.result ≡ ball_with (corner (pos 3) (pos 4) (pos 0) tt tt tt) = c.more-2.ensures ∙ ap₂ ball_grown (c.more.ensures ∙ ap₂ ball_grown (c.first.ensures ∙ ap ball_begun at-o) at_p) at-o in
    let reach = c.reach.ensures ∙ ap₂ reach_of_ball ball (same_direction c.in_ok-up.up upward u.0 u.1 u.2) in
    ap (λ (z : ℤ). Some z) (to_z-of_z w64 c.reach.result (record { sfits = c.reach.type_inv }) ∙ reach ∙ worked.reach_20480)
