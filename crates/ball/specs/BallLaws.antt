-- A ball keeps the laws of a hull.
use Rattle.std.specs.Prelude.{◌≡◌, ℕ, ◌+◌, ◌*◌, ◌≤◌, max, List, [], ◌∷◌, ◌++◌, ℤ, pos, negsuc, ◌+ℤ◌, ◌-ℤ◌, ◌*ℤ◌, ◌≤ℤ◌, unsigned_abs, refl}
use Rattle.std.proofs.Common.{sym, ◌∙◌, ap, ap₂, arith, lit<}
use Rattle.std.proofs.Math.Nat as N
use Rattle.std.proofs.lemmas.Int.{ints}
use Rattle.std.specs.List.{AllByRecursion}
use Rattle.std.proofs.ByRecursion.{All-weaker}
use Rattle.integers.specs.Roots.{root_up}
use Rattle.integers.proofs.Order.{small_mul}
use Rattle.integers.proofs.Ring.{var, ◌⊕◌, ◌⊖◌, ◌⊗◌, solve}
use Rattle.integers.proofs.Rounding.{div_up_bounds}
use Rattle.integers.proofs.Roots.{root_over, root_least}
use Rattle.integers.proofs.Squares.{dot_le}
use Rattle.hull.specs.declared.corner.Corner.{Corner}
use Rattle.hull.specs.declared.direction.Direction.{Direction}
use Rattle.hull.specs.Units.{reach_unit, slack, squared}
use Rattle.hull.specs.Measures.{along, size, Near, Spread, Covers, Tight}
use Rattle.ball.specs.declared.kind.BallHull.{BallHull}
use Rattle.ball.specs.Balls.{apart, distance_up, ball_begun, ball_grown, reach_of_ball, farthest, BallFits}

-- ---- the largest distance of a list
farthest_more : (z : Corner) (c : List Corner) (p : Corner) → farthest z (c ++ p ∷ []) ≡ max (farthest z c) (distance_up p z)
farthest_more z [] p = omega arith
farthest_more z (v ∷ c) p = let e = farthest_more z c p in omega arith

farthest_over : (z : Corner) (c : List Corner) → AllByRecursion (λ v. distance_up v z ≤ farthest z c) c
farthest_over z [] = tt
farthest_over z (v ∷ c) =
    (N.le-max_left (distance_up v z) (farthest z c), All-weaker (λ w. distance_up w z ≤ farthest z c) (λ w. distance_up w z ≤ farthest z (v ∷ c)) (λ w l. omega arith) c (farthest_over z c))

farthest_under : (z : Corner) (n : ℕ) (c : List Corner) → AllByRecursion (λ v. distance_up v z ≤ n) c → farthest z c ≤ n
farthest_under z n [] h = omega arith
farthest_under z n (v ∷ c) h = let l = farthest_under z n c h.1 in omega arith

-- ---- the rules of fit
apart_itself : (p : Corner) → apart p p ≡ 0
apart_itself p = rw (none p.x, none p.y, none p.z)
  where
    none : (x : ℤ) → unsigned_abs (x -ℤ x) ≡ 0
    none x = omega (arith, ints)

pub one : (p : Corner) → BallFits (ball_begun p) (p ∷ [])
one p = let l = root_least (apart p p) 0 (omega (arith, apart_itself p)) in (refl, omega arith)

pub another : (h : BallHull) (c : List Corner) (p : Corner) → BallFits h c → BallFits (ball_grown h p) (c ++ p ∷ [])
another h [] p f = absurd f
another h (z ∷ c) p f = (f.0, ap₂ max f.1 (ap (distance_up p) f.0) ∙ sym (farthest_more z (z ∷ c) p))

-- ---- what a fit says of each corner
inside : (h : BallHull) (c : List Corner) → BallFits h c → AllByRecursion (λ v. distance_up v h.centre ≤ h.radius) c
inside h [] f = tt
inside h (z ∷ c) f =
    All-weaker (λ v. distance_up v z ≤ farthest z (z ∷ c)) (λ v. distance_up v h.centre ≤ h.radius) (λ v l. rw (f.0, f.1) l) (z ∷ c) (farthest_over z (z ∷ c))

near_centre : (h : BallHull) (c : List Corner) (s : ℕ) → BallFits h c → Spread s c → AllByRecursion (λ v. Near s v h.centre) c
near_centre h [] s f n = tt
near_centre h (z ∷ c) s f n = All-weaker (λ v. AllByRecursion (λ w. Near s v w) (z ∷ c)) (λ v. Near s v h.centre) (λ v t. rw f.0 t.0) (z ∷ c) n

-- corners that differ by at most s in each coordinate are at most 2 s apart
near_distance : (s : ℕ) (v z : Corner) → Near s v z → distance_up v z ≤ 2 * s
near_distance s v z t =
    root_least (apart v z) (2 * s)
    (omega (arith, N.mul-le-mul t.near_x t.near_x, N.mul-le-mul t.near_y t.near_y, N.mul-le-mul t.near_z t.near_z, N.mul-mul-mul_comm 2 s 2 s))

radius_under : (h : BallHull) (c : List Corner) (s : ℕ) → BallFits h c → Spread s c → h.radius ≤ 2 * s
radius_under h [] s f n = absurd f
radius_under h (z ∷ c) s f n =
    rw f.1 (farthest_under z (2 * s) (z ∷ c) (All-weaker (λ v. AllByRecursion (λ w. Near s v w) (z ∷ c)) (λ v. distance_up v z ≤ 2 * s) (λ v t. near_distance s v z t.0) (z ∷ c) n))

-- ---- squares
square_is : (z : ℤ) → z *ℤ z ≡ pos (unsigned_abs z * unsigned_abs z)
square_is (pos n) = refl
square_is (negsuc n) = refl

squares_le : (a b c : ℤ) (n : ℕ) → squared a b c ≤ n * n → (a *ℤ a +ℤ b *ℤ b +ℤ c *ℤ c) ≤ℤ (pos n *ℤ pos n)
squares_le a b c n h = let x = square_is a in let y = square_is b in let z = square_is c in omega (arith, ints)

-- the root of u·u, rounded up
abbrev length_up : Direction → ℕ
length_up u = root_up (squared u.x u.y u.z)

-- it is at most |u|
length_under : (u : Direction) → length_up u ≤ size u
length_under u = root_least (squared u.x u.y u.z) (size u) (squares (unsigned_abs u.x) (unsigned_abs u.y) (unsigned_abs u.z))
  where
    squares : (a b c : ℕ) → a * a + b * b + c * c ≤ (a + b + c) * (a + b + c)
    squares a b c = simp (N.add-mul, N.mul-add) (omega arith)

dot_small : (a b c d e f : ℤ) (s : ℕ) → unsigned_abs a ≤ s → unsigned_abs b ≤ s → unsigned_abs c ≤ s → unsigned_abs (a *ℤ d +ℤ b *ℤ e +ℤ c *ℤ f) ≤ s * (unsigned_abs d + unsigned_abs e + unsigned_abs f)
dot_small a b c d e f s h k l =
    let x = small_mul a d s (unsigned_abs d) h (N.le_refl (unsigned_abs d)) in
    let y = small_mul b e s (unsigned_abs e) k (N.le_refl (unsigned_abs e)) in
    let z = small_mul c f s (unsigned_abs f) l (N.le_refl (unsigned_abs f)) in
    simp N.mul-add (omega (arith, ints))

-- ---- along u, from the corner z to the corner v
module _ (u : Direction) (z v : Corner) where
  abbrev step : ℤ
  step = (v.x -ℤ z.x) *ℤ u.x +ℤ (v.y -ℤ z.y) *ℤ u.y +ℤ (v.z -ℤ z.z) *ℤ u.z

  along_step : along u v ≡ along u z +ℤ step
  along_step =
      solve (u.x ∷ u.y ∷ u.z ∷ v.x ∷ v.y ∷ v.z ∷ z.x ∷ z.y ∷ z.z ∷ []) (var 0 ⊗ var 3 ⊕ var 1 ⊗ var 4 ⊕ var 2 ⊗ var 5)
      (var 0 ⊗ var 6 ⊕ var 1 ⊗ var 7 ⊕ var 2 ⊗ var 8 ⊕ ((var 3 ⊖ var 6) ⊗ var 0 ⊕ (var 4 ⊖ var 7) ⊗ var 1 ⊕ (var 5 ⊖ var 8) ⊗ var 2)) refl

  step_over : (r : ℕ) → distance_up v z ≤ r → step ≤ℤ pos (r * length_up u)
  step_over r h =
      dot_le (v.x -ℤ z.x) (v.y -ℤ z.y) (v.z -ℤ z.z) u.x u.y u.z r (length_up u)
      (squares_le (v.x -ℤ z.x) (v.y -ℤ z.y) (v.z -ℤ z.z) r (N.le_trans (root_over (apart v z)) (N.mul-le-mul h h)))
      (squares_le u.x u.y u.z (length_up u) (root_over (squared u.x u.y u.z)))

  step_small : (s : ℕ) → Near s v z → unsigned_abs step ≤ s * size u
  step_small s t = dot_small (v.x -ℤ z.x) (v.y -ℤ z.y) (v.z -ℤ z.z) u.x u.y u.z s t.near_x t.near_y t.near_z

-- ---- the two laws, first over bare numbers: t is 256 times the reach, a is u·z, and b is u·v
over : (t a b d : ℤ) (n : ℕ) → (a +ℤ pos n) ≤ℤ t → b ≡ a +ℤ d → d ≤ℤ pos n → b ≤ℤ t
over t a b d n h e k = omega (arith, ints)

under : (t a b d : ℤ) (r q s n : ℕ) → t ≤ℤ (a +ℤ pos (r * q) +ℤ pos 255) → b ≡ a +ℤ d → unsigned_abs d ≤ s * n → r ≤ 2 * s → q ≤ n → t ≤ℤ (b +ℤ pos (3 * (n * (s + 8)) + slack))
under t a b d r q s n h e k f g =
    omega (arith, ints, N.mul-le-mul f g, N.mul_assoc 2 s n, N.mul_comm s n, N.mul-add n s 8)

-- u·z + r × q
abbrev reach_sum : BallHull → Direction → ℤ
reach_sum h u = along u h.centre +ℤ pos (h.radius * length_up u)

pub covers : (h : BallHull) (c : List Corner) (u : Direction) → BallFits h c → Covers (reach_of_ball h u) u c
covers h c u f = All-weaker (λ v. distance_up v h.centre ≤ h.radius) (λ v. along u v ≤ℤ (pos reach_unit *ℤ reach_of_ball h u)) each c (inside h c f)
  where
    each : (v : Corner) → distance_up v h.centre ≤ h.radius → along u v ≤ℤ (pos reach_unit *ℤ reach_of_ball h u)
    each v l =
        over (pos reach_unit *ℤ reach_of_ball h u) (along u h.centre) (along u v) (step u h.centre v) (h.radius * length_up u)
        (div_up_bounds (reach_sum h u) reach_unit (lit< tt)).0 (along_step u h.centre v) (step_over u h.centre v h.radius l)

pub tight : (h : BallHull) (c : List Corner) (u : Direction) (s : ℕ) → BallFits h c → Spread s c → Tight (reach_of_ball h u) u s c
tight h c u s f n = All-weaker (λ v. Near s v h.centre) (λ v. (pos reach_unit *ℤ reach_of_ball h u) ≤ℤ (along u v +ℤ pos (3 * (size u * (s + 8)) + slack))) each c (near_centre h c s f n)
  where
    each : (v : Corner) → Near s v h.centre → (pos reach_unit *ℤ reach_of_ball h u) ≤ℤ (along u v +ℤ pos (3 * (size u * (s + 8)) + slack))
    each v t =
        under (pos reach_unit *ℤ reach_of_ball h u) (along u h.centre) (along u v) (step u h.centre v) h.radius (length_up u) s (size u)
        (div_up_bounds (reach_sum h u) reach_unit (lit< tt)).1 (along_step u h.centre v) (step_small u h.centre v s t) (radius_under h c s f n) (length_under u)
