use Rattle.std.proofs.Common.{◌≡◌, ℕ, ◌+◌, ◌-◌, min, List, length, take, drop, subst₂, arith, w64, SFits, rules}
use Rattle.std.proofs.lemmas.List.{length-take, length-drop}
use Rattle.std.proofs.lemmas.Int.{to_z-of_z}
use Rattle.walks.specs.Runs.{Compared}
use Rattle.register.specs.Registers.{book_of}
use Rattle.register.specs.Comparing.{compared}
use Rattle.register.proofs.Stretching.{lent, returned, back}
use Rattle.register.proofs.requests.compare_at.Goals as goal

-- the stretch that was lent comes back as long as it was
as_many : (xs ys : List (ℕ × ℕ)) (from many : ℕ) (places : ℕ) → length ys ≡ length (take ((from + many) - from) (drop from xs)) → many ≡ min places (length xs - from) → length ys ≡ many
as_many xs ys from many places same n = omega (arith, same, length-take ((from + many) - from) (drop from xs), length-drop from xs)

pub returns-clause-answer : goal.returns-clause-answer
returns-clause-answer g c =
    let xs = c.args.lists.now in
    let ys = c.compare-result.new.pairs in
    let from = c.args.from in
    let many = c.min.result in
    let n : c.min.result ≡ min c.args.places (length c.args.lists.now - c.args.from) = search rules in
    let l = as_many xs ys from many _ c.compare-result.auto.pairs n in
    let fm : SFits w64 c.args.comparison.moved = search rules in
    let fs : SFits w64 c.args.comparison.standing = search rules in
    let r = book_of c.args.register.now in
    let k : Compared g.H.Hull.begun g.H.Hull.grown g.H.Hull.reaches g.H.Hull.faced g.H.Hull.unrounded (book_of c.args.register.now) c.args.comparison (take ((from + many) - from) (drop from xs)) ys (compared c.compare-result.result) = simp to_z-of_z at (c.compare-result.ensures.grown) in
    rw c.answer_of.ensures (subst₂ (λ (p q : List (ℕ × ℕ)). Compared g.H.Hull.begun g.H.Hull.grown g.H.Hull.reaches g.H.Hull.faced g.H.Hull.unrounded (book_of c.args.register.now) c.args.comparison p q (compared c.compare-result.result)) (lent xs ys from many c.args.places c.requires n l) (returned xs ys from many c.args.places c.requires n l) k)

pub returns-clause-back : goal.returns-clause-back
returns-clause-back g c =
    let xs = c.args.lists.now in
    let many = c.min.result in
    let n : many ≡ min c.args.places (length xs - c.args.from) = search rules in
    back xs c.compare-result.new.pairs c.args.from many c.args.places c.requires n (as_many xs _ c.args.from many _ c.compare-result.auto.pairs n)
