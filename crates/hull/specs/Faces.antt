-- The faces of a hull, each by the direction in which it looks.
use Rattle.std.specs.Prelude.{ℕ, suc, ◌+◌, ◌≤◌, Bool, cond, List, [], ◌∷◌, ℤ, pos, negsuc, ◌+ℤ◌, neg_ℤ, ◌==◌, unsigned_abs}
use Rattle.hull.specs.declared.face.Face.{Face}

abbrev pub face : ℤ → ℤ → ℤ → Face
face x y z = record { x = x; y = y; z = z }

-- -1
abbrev minus : ℤ
minus = negsuc 0

-- the sum of two, entry by entry
abbrev pub joined : Face → Face → Face
joined e f = face (e.x +ℤ f.x) (e.y +ℤ f.y) (e.z +ℤ f.z)

-- the face that looks the other way
abbrev pub behind : Face → Face
behind f = face (neg_ℤ f.x) (neg_ℤ f.y) (neg_ℤ f.z)

-- no entry is beyond 1
pub record Small (f : Face) : Type 0 where
  pub small_x : unsigned_abs f.x ≤ 1
  pub small_y : unsigned_abs f.y ≤ 1
  pub small_z : unsigned_abs f.z ≤ 1

-- how many entries are not 0
abbrev pub rank : Face → ℕ
rank f = unsigned_abs f.x + unsigned_abs f.y + unsigned_abs f.z

-- the 26 faces: six along the axes, which are those of a box; twelve along the edges; eight along the tips
abbrev pub faces : List Face
faces =
    face (pos 1) (pos 0) (pos 0) ∷ face minus (pos 0) (pos 0)
    ∷ face (pos 0) (pos 1) (pos 0) ∷ face (pos 0) minus (pos 0)
    ∷ face (pos 0) (pos 0) (pos 1) ∷ face (pos 0) (pos 0) minus
    ∷ face (pos 1) (pos 1) (pos 0) ∷ face (pos 1) minus (pos 0) ∷ face minus (pos 1) (pos 0) ∷ face minus minus (pos 0)
    ∷ face (pos 1) (pos 0) (pos 1) ∷ face (pos 1) (pos 0) minus ∷ face minus (pos 0) (pos 1) ∷ face minus (pos 0) minus
    ∷ face (pos 0) (pos 1) (pos 1) ∷ face (pos 0) (pos 1) minus ∷ face (pos 0) minus (pos 1) ∷ face (pos 0) minus minus
    ∷ face (pos 1) (pos 1) (pos 1) ∷ face (pos 1) (pos 1) minus ∷ face (pos 1) minus (pos 1) ∷ face (pos 1) minus minus
    ∷ face minus (pos 1) (pos 1) ∷ face minus (pos 1) minus ∷ face minus minus (pos 1) ∷ face minus minus minus ∷ []

-- no face, where one is asked for past the end of the list
abbrev pub no_face : Face
no_face = face (pos 0) (pos 0) (pos 0)

-- whether no entry differs
abbrev pub same : Face → Face → Bool
same e f = rank (joined e (behind f)) == 0

-- how many elements of a list come before a face
abbrev before : Face → List Face → ℕ
before f [] = 0
before f (e ∷ es) = cond (same e f) 0 (suc (before f es))

-- where a face stands among the 26
unfoldable pub place : Face → ℕ
place f = before f faces
