-- A replay where what each request asks is the request itself.
use Rattle.std.proofs.Common.{ℕ, List, map, ℤ}
use Rattle.std.proofs.lemmas.List.{map-id}
use Rattle.hull.specs.declared.corner.Corner.{Corner}
use Rattle.hull.specs.declared.direction.Direction.{Direction}
use Rattle.book.specs.declared.call.Request.{Request}
use Rattle.book.specs.declared.call.Answer.{Answer}
use Rattle.walks.specs.Runs.{Replayed}

pub replayed_requests : {H : Type 0} (begun : Corner → H) (grown : H → Corner → H) (reaches : H → Direction → ℤ) (faced : Type 0) (unrounded : List Corner → Direction → ℤ) (mark table : ℕ) (requests : List Request) (before after : List Answer) (places : ℕ) (lists_before lists : List (ℕ × ℕ))
    → Replayed begun grown reaches faced unrounded mark table (map (λ r. r) requests) before after places lists_before lists → Replayed begun grown reaches faced unrounded mark table requests before after places lists_before lists
replayed_requests begun grown reaches faced unrounded mark table requests before after places lists_before lists ran = rw map-id at ran
