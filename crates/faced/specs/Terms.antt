-- What a direction's weights, as the direction keeps them, add to a reach.
use Rattle.std.specs.Prelude.{List, ℤ, pos, negsuc, ◌*ℤ◌, slice_index_or}
use Rattle.hull.specs.declared.face.FaceWeight.{FaceWeight}
use Rattle.support.specs.Supports.{sum_of}

-- n × g, with the weight already divided both ways
abbrev pub counted : FaceWeight → ℤ → ℤ
counted w (pos g) = pos w.up *ℤ pos g
counted w (negsuc g) = pos w.down *ℤ negsuc g

-- at the support value of its face
abbrev pub term : List ℤ → FaceWeight → ℤ
term values w = counted w (slice_index_or values w.face (pos 0))

unfoldable pub terms : List ℤ → List FaceWeight → ℤ
terms values ws = sum_of (term values) ws
