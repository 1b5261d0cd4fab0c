use Rattle.std.proofs.Common.{◌≡◌, ◌≢◌, ℕ, Bool, false, true≢false, nat_eq, ◌&&◌, List, ◌++◌, Option, Some, None, MatchOption, Decides, Bor, sym, subst, ap, ◌∙◌}
use Rattle.std.proofs.lemmas.Bool.Decides.{Decides-eqb, Decides-and, Decides-like}
use Rattle.std.proofs.lemmas.List.{append_cancel_left}
use Rattle.std.proofs.lemmas.Slice.Eq.{strip_prefix_is}
use Rattle.replays.proofs.history.holds.Goals as goal

-- pairs are equal where both of their parts are
same : (p q : ℕ × ℕ) → Decides (nat_eq p.0 q.0 && nat_eq p.1 q.1) (p ≡ q)
same p q =
    Decides-like _ (λ e i. (e.0 i, e.1 i)) (λ e. (ap (λ x. x.0) e, ap (λ x. x.1) e))
    (Decides-and _ _ (Decides-eqb p.0 q.0) (Decides-eqb p.1 q.1))

-- a test of what is behind a prefix decides whether there is the prefix, and behind it what is tested
behind : {X : Type 0} (s p : List X) (P : List X → Type 0) (r : Bool) (o : Option (Bor (List X)))
    → MatchOption o ((rest : List X) → s ≢ p ++ rest) (λ x. s ≡ p ++ x.now)
    → MatchOption o (r ≡ false) (λ x. Decides r (P x.now))
    → Decides r ((rest : List X) × (s ≡ p ++ rest) × P rest)
behind s p P r (Some x) e test = (λ t. (x.now, e, test.0 t), λ (rest, is, holds). test.1 (subst P (append_cancel_left p rest x.now (sym is ∙ e)) holds))
behind s p P r None other is_false = (λ t. absurd (true≢false (sym t ∙ is_false)), λ (rest, is, holds). absurd (other rest is))

pub returns : goal.returns
returns c =
    behind c.args.list.now c.args.pairs.now _ _ c.strip_prefix.result
    (strip_prefix_is same c.args.list.now c.args.pairs.now _ c.strip_prefix.ensures.cases)
    c.is_some_and.ensures
