use Rattle.std.proofs.Common.{◌≡◌, ℕ, List, ◌++◌, [], take, IfSome, Some, None, Option, ap, ◌∙◌, subst, arith}
use Rattle.std.specs.Option.{option_map}
use Rattle.std.proofs.lemmas.List.{take-take}
use Rattle.input.proofs.read_bytes.Goals as goal

-- the first k of the first k bytes that are read
cut : (o p : Option (List ℕ)) (k m : ℕ) (xs ys none : List ℕ) → p ≡ o → m ≡ k → none ≡ [] → IfSome (option_map (take m) p) (λ bs. xs ≡ none ++ bs) → ys ≡ take k xs → IfSome o (λ bs. ys ≡ take k bs)
cut (Some bs) p k m xs ys none same limit empty told e =
    let all : IfSome (option_map (take k) (Some bs)) (λ bs. xs ≡ [] ++ bs) = subst (λ l. IfSome (option_map (take k) (Some bs)) (λ bs. xs ≡ l ++ bs)) empty
    (subst (λ q. IfSome (option_map (take k) q) (λ bs. xs ≡ none ++ bs)) same (subst (λ n. IfSome (option_map (take n) p) (λ bs. xs ≡ none ++ bs)) limit told)) in
    e ∙ ap (take k) all ∙ take-take k k bs (omega arith)
cut None p k m xs ys none same limit empty told e = tt

pub returns-clause-all : goal.returns-clause-all
returns-clause-all g c =
    cut _ _ 65537 _ _ _ _ (ap g.R.Read.remaining c.take.ensures.inner) c.take.ensures.limit c.new-bytes.ensures.items c.in_ok-read_to_end.ensures.bytes c.truncate.ensures.items
