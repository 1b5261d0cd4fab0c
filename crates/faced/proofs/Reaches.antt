-- The reach as the code sums it up.
use Rattle.std.proofs.Common.{◌≡◌, ℕ, ◌<◌, List, [], ◌∷◌, map, length, get_or, ℤ, pos, negsuc, ◌+ℤ◌, sym, refl, ap, ◌∙◌, ap₂, arith}
use lib.IntN.{+ℤ_idr, +ℤ_assoc}
use Rattle.std.specs.List.{AllByRecursion}
use Rattle.std.proofs.ByRecursion.{All-map, All-weaker}
use Rattle.hull.specs.declared.face.FaceWeight.{FaceWeight}
use Rattle.hull.specs.declared.face.Weight.{Weight}
use Rattle.hull.specs.Weights.{divided}
use Rattle.support.specs.Supports.{share, support, reach_on}
use Rattle.support.proofs.FacedLaws.{Listed}
use Rattle.faced.specs.Terms.{counted, term, terms}

pub terms_three : (values : List ℤ) (ws : List FaceWeight) (d : FaceWeight) → length ws ≡ 3 → term values (get_or ws 0 d) +ℤ term values (get_or ws 1 d) +ℤ term values (get_or ws 2 d) ≡ terms values ws
unfolding terms
terms_three values [] d h = absurd (omega arith)
terms_three values (a ∷ []) d h = absurd (omega arith)
terms_three values (a ∷ b ∷ []) d h = absurd (omega arith)
terms_three values (a ∷ b ∷ c ∷ []) d h =
    +ℤ_assoc (term values a) (term values b) (term values c) ∙ ap (λ (k : ℤ). term values a +ℤ (term values b +ℤ k)) (sym (+ℤ_idr (term values c)))
terms_three values (a ∷ b ∷ c ∷ e ∷ ws) d h = absurd (omega arith)

counted_divided : (w : Weight) (g : ℤ) → counted (divided w) g ≡ share w.amount g
counted_divided w (pos g) = refl
counted_divided w (negsuc g) = refl

-- with the weights of a direction it is the reach of the rule
pub terms_reach : (values : List ℤ) (ws : List Weight) → terms values (map divided ws) ≡ reach_on ws values
unfolding terms reach_on
terms_reach values [] = refl
terms_reach values (w ∷ ws) = ap₂ ◌+ℤ◌ (counted_divided w (support values w.on)) (terms_reach values ws)

-- the faces of a direction's weights are among those of the hull
pub faces_within : (n : ℕ) (ws : List Weight) → AllByRecursion (λ (w : Weight). Listed n w.on) ws → AllByRecursion (λ (w : FaceWeight). w.face < n) (map divided ws)
faces_within n ws h = All-map (λ (w : FaceWeight). w.face < n) divided ws (All-weaker (λ (w : Weight). Listed n w.on) (λ (w : Weight). (divided w).face < n) (λ w l. l.within) ws h)
