use Rattle.std.proofs.Common.{◌≡◌, ℕ, ◌+◌, ◌<◌, min, List, length, map, get_or, take, drop, set, sym, refl, ap, ◌∙◌, subst, subst₂, rules, arith}
use Rattle.std.proofs.lemmas.List.{length-map, length-take, get_or-map, get_or-take, drop-set-lt, drop-drop}
use Rattle.book.specs.declared.call.Answer.{Answer}
use Rattle.book.specs.Books.{Book}
use Rattle.walks.specs.Runs.{Ran}
use Rattle.walks.proofs.Runs.{running_none, next_write, next_compare}
use Rattle.register.specs.Registers.{book_of}
use Rattle.register.proofs.requests.replay_requests.Goals as goal
use Rattle.register.proofs.requests.replay_requests.Goals.{in-Write, in-Compare}

pub loop-i-init : goal.loop-i-init
loop-i-init g c = record { running = running_none _ _ _ _ _ _ _ _; kept = refl }

-- the other answers stay
kept_set : (before answers : List Answer) (i : ℕ) (a : Answer) → drop i answers ≡ drop i before → drop (i + 1) (set answers i a) ≡ drop (i + 1) before
kept_set before answers i a e = drop-set-lt (i + 1) answers i a (omega arith) ∙ (sym (drop-drop 1 i answers) ∙ (ap (drop 1) e ∙ drop-drop 1 i before))

-- what the item at a place asks, whatever number names the place; get_or falls back on that answer itself
asked_at : {X Y : Type 0} (f : X → Y) (xs : List X) (i j : ℕ) (x : X) (y : Y) → i < length xs → x ≡ get_or xs j x → j ≡ i → y ≡ f x → get_or (map f xs) i y ≡ y
asked_at f xs i j x y l is at e = get_or-map f xs i x y l ∙ (ap f (sym (is ∙ ap (λ (k : ℕ). get_or xs k x) at)) ∙ sym e)

pub loop-i-preserved : goal.loop-i-preserved
loop-i-preserved g c =
    let i = c.loop-i.i in
    let xs = c.args.requests.now in
    let rs = map g.R.Asked.asked xs in
    let n : c.loop-i.i < c.min-count.result = omega (arith, c.loop-i-test.true, length-take c.min-count.result xs) in
    let l : c.loop-i.i < length c.args.requests.now = omega (arith, n, c.min-count.ensures) in
    let hr : c.loop-i.i < length rs = omega (arith, l, length-map xs g.R.Asked.asked) in
    let ha : c.loop-i.i < length c.loop-i.answers = omega (arith, n, c.min-count.ensures, c.loop-i.auto.answers) in
    let item : c.asked-item.result ≡ get_or xs i c.asked-item.result = c.asked-item.is ∙ get_or-take _ xs i _ n in
    let is : get_or rs i c.request.result ≡ c.request.result = search (rules, asked_at) in
    elim c.match-request.branch [
      | in-Write w ↦ rw (w.lists-is, w.register-is, w.from-is, w.answer-is) (record {
        running = next_write _ _ _ _ _ _ _ _ rs c.loop-i.answers i hr ha c.loop-i.from c.loop-i.lists _ w.in-Write.call w.make-answer.result (is ∙ w.in-Write.is) c.loop-i.invariant.running w.make-answer.ensures;
        kept = kept_set c.args.answers.now c.loop-i.answers i _ c.loop-i.invariant.kept;
      })
      | in-Compare w ↦ rw (w.lists-is, w.register-is, w.from-is, w.answer-is) (record {
        running = next_compare _ _ _ _ _ _ _ _ rs c.loop-i.answers i hr ha c.loop-i.from c.loop-i.lists _ w.in-Compare.comparison w.compare_at-answer.result.0 (is ∙ w.in-Compare.is) c.loop-i.invariant.running
            (record { long = w.compare_at-answer.auto.lists; front = w.compare_at-answer.ensures.front; back = w.compare_at-answer.ensures.back; to_is = w.compare_at-answer.ensures.next }) w.compare_at-answer.ensures.answer;
        kept = kept_set c.args.answers.now c.loop-i.answers i _ c.loop-i.invariant.kept;
      })
    ]

pub returns : goal.returns
returns g c =
    let r = c.loop-i.invariant.running in
    let rs = map g.R.Asked.asked c.args.requests.now in
    let e : c.loop-i.i ≡ min (length rs) (length c.args.answers.now) = omega (arith, length-map c.args.requests.now g.R.Asked.asked, length-take c.min-count.result c.args.requests.now, c.min-count.ensures, c.loop-i-test.false, c.loop-i.auto.i-end) in
    record {
      ran = record {
        last = book_of c.loop-i.register;
        comparisons = r.comparisons;
        ran = subst₂ (λ (b : Book) (n : ℕ). Ran g.H.Hull.begun g.H.Hull.grown g.H.Hull.reaches g.H.Hull.faced g.H.Hull.unrounded c.args.places c.args.lists.now c.loop-i.lists 0 b (take n rs) (take n c.loop-i.answers) r.comparisons (book_of c.loop-i.register)) c.open-register.ensures.book e r.ran;
        answers_kept = subst (λ (n : ℕ). drop n c.loop-i.answers ≡ drop n c.args.answers.now) e c.loop-i.invariant.kept;
        lists_kept = r.kept;
      };
    }
