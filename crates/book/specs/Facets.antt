-- A facet from nine numbers.
use Rattle.std.specs.Prelude.{ℕ, ◌+◌, ◌≤◌, Bool, cond, ◌&&◌, List, [], ◌∷◌, ℤ, pos, nat_le, slice_index_or, unsigned_abs}
use Rattle.std.proofs.Common.{zero-le}
use Rattle.std.proofs.lemmas.Bool.{cond_both, leb-true}
use Rattle.hull.specs.Units.{corner_limit}
use Rattle.hull.specs.declared.corner.Corner.{Corner}
use Rattle.book.specs.declared.item.Facet.{Facet}

-- may the number be an entry of a corner?
abbrev pub fits : ℤ → Bool
fits n = nat_le (unsigned_abs n) corner_limit

-- may the three be the entries of a corner?
abbrev pub fits_corner : ℤ → ℤ → ℤ → Bool
fits_corner x y z = fits x && (fits y && fits z)

-- the number of a list at a place
abbrev pub nth : List ℤ → ℕ → ℤ
nth n k = slice_index_or n k (pos 0)

-- may the three numbers from a place on be the entries of a corner?
unfoldable pub fits_at : List ℤ → ℕ → Bool
fits_at n k = fits_corner (nth n k) (nth n (k + 1)) (nth n (k + 2))

-- are all nine numbers in range?
unfoldable pub within : List ℤ → Bool
within n = fits_at n 0 && (fits_at n 3 && fits_at n 6)

-- the number, where it is in range
unfoldable pub entry : ℤ → ℤ
entry n = cond (fits n) n (pos 0)

pub entry_fits : (n : ℤ) → unsigned_abs (entry n) ≤ corner_limit
unfolding entry
entry_fits n = cond_both (fits n) n (pos 0) (λ (m : ℤ). unsigned_abs m ≤ corner_limit) (λ e. leb-true (unsigned_abs n) corner_limit e) (λ e. zero-le)

-- the corner with these entries
unfoldable pub corner : ℤ → ℤ → ℤ → Corner
corner x y z = record { x = entry x; y = entry y; z = entry z; x_in = entry_fits x; y_in = entry_fits y; z_in = entry_fits z }

-- the corner whose entries stand at a place and after it
unfoldable pub corner_from : List ℤ → ℕ → Corner
corner_from n k = corner (nth n k) (nth n (k + 1)) (nth n (k + 2))

-- the facet of nine numbers, three for each corner
unfoldable pub facet_of : List ℤ → Facet
facet_of n = record { a = corner_from n 0; b = corner_from n 3; c = corner_from n 6 }

-- its corners, in order
abbrev pub corners_of : Facet → List Corner
corners_of f = f.a ∷ f.b ∷ f.c ∷ []
