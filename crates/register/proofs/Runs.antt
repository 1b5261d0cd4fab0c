-- A history of requests that are all calls that write.
use Rattle.std.proofs.Common.{◌≡◌, ℕ, min, List, [], ◌∷◌, map, length, take, ℤ, ap, ◌∙◌, subst}
use Rattle.std.proofs.lemmas.List.{length-map, take-map}
use Rattle.hull.specs.declared.corner.Corner.{Corner}
use Rattle.hull.specs.declared.direction.Direction.{Direction}
use Rattle.book.specs.declared.call.Call.{Call}
use Rattle.book.specs.declared.call.Answer.{Answer}
use Rattle.book.specs.declared.call.Request.{Request}
use Rattle.book.specs.declared.call.Request.TheVariants.{Write}
use Rattle.book.specs.Books.{Book, Said}
use Rattle.walks.specs.Runs as request
use Rattle.register.specs.Runs.{Ran, none, more, Replayed}

module _ {H : Type 0} (begun : Corner → H) (grown : H → Corner → H) (reaches : H → Direction → ℤ) (faced : Type 0) (unrounded : List Corner → Direction → ℤ) where
  ran_calls : {places : ℕ} {lists_before lists : List (ℕ × ℕ)} {k n : ℕ} {b last : Book} {requests : List Request} {answers : List Answer} (calls : List Call)
      → request.Ran begun grown reaches faced unrounded places lists_before lists k b requests answers n last → requests ≡ map Write calls → Ran b calls answers last
  ran_calls [] request.none e = none
  ran_calls [] (request.wrote s r) e = cc
  ran_calls [] (request.asked s r) e = cc
  ran_calls (call ∷ calls) request.none e = cc
  ran_calls (call ∷ calls) (request.wrote {b = b} {c = c} {call = made} {answer = answer} s r) e =
      let is : made ≡ call = cc in more (subst (λ (x : Call). Said b x answer c) is s) (ran_calls calls r (cc))
  ran_calls (call ∷ calls) (request.asked s r) e = cc

  -- the replay of requests that are the calls is the replay of the calls
  pub replayed_calls : (mark table : ℕ) (calls : List Call) (requests : List Request) (before after : List Answer) (places : ℕ) (lists_before lists : List (ℕ × ℕ))
      → request.Replayed begun grown reaches faced unrounded mark table requests before after places lists_before lists → requests ≡ map Write calls → Replayed mark table calls before after
  replayed_calls mark table calls requests before after places lists_before lists r is =
      let n : ℕ = min (length calls) (length before) in
      let m : length requests ≡ length calls = ap length is ∙ length-map calls Write in
      record {
        last = r.last;
        ran = ran_calls (take n calls) (rw m at r.ran) (ap (take n) is ∙ take-map Write n calls);
        kept = rw m at r.answers_kept;
      }
