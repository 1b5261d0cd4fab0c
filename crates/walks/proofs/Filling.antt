-- The list that a walk fills from its start.
use Rattle.std.proofs.Common.{◌≡◌, ℕ, ◌+◌, ◌<◌, ◌≤◌, List, [], ◌∷◌, ◌++◌, length, take, drop, set, sym, ap, ◌∙◌, append_assoc, arith}
use Rattle.std.proofs.lemmas.List.{drop-set-lt, drop-drop, length-set, take-append-drop, length-take-le, length-append, take_all, take-append-le}
use Rattle.walks.specs.Answers.{AllHeld, FirstHeld}

-- so many places of the list are filled, and the others are as before
pub record Filled (before list : List (ℕ × ℕ)) (count : ℕ) : Type 0 where
  pub within : count ≤ length list
  pub long : length list ≡ length before
  pub kept : drop count list ≡ drop count before

module _ (before list : List (ℕ × ℕ)) (count : ℕ) (f : Filled before list count) where
  pub filled_more : (x : ℕ × ℕ) → count < length list → Filled before (set list count x) (count + 1)
  filled_more x h = record {
    within = omega (arith, length-set list count x);
    long = length-set list count x ∙ f.long;
    kept = drop-set-lt (count + 1) list count x (omega arith) ∙ sym (drop-drop 1 count list) ∙ ap (drop 1) f.kept ∙ drop-drop 1 count before;
  }

  pub all_held : (found : List (ℕ × ℕ)) → take count list ≡ found → (count ≡ length found) × AllHeld found before list
  all_held found e =
      let n : count ≡ length found = sym (length-take-le count list f.within) ∙ ap length e in (
        n,
        record {
          room = omega (arith, f.within, f.long);
          is = sym (take-append-drop count list) ∙ (ap (λ (z : List (ℕ × ℕ)). z ++ drop count list) e ∙ ap (λ (z : List (ℕ × ℕ)). found ++ z) (f.kept ∙ ap (λ (k : ℕ). drop k before) n));
        },
      )

  pub first_held : (found more : List (ℕ × ℕ)) (x : ℕ × ℕ) → length list ≤ count → (take count list ++ x ∷ []) ++ more ≡ found → FirstHeld found before list
  first_held found more x h e =
      let a : take count list ≡ list = take_all count list h in
      let k : list ++ (x ∷ more) ≡ found = sym (append_assoc list (x ∷ []) more) ∙ (ap (λ (z : List (ℕ × ℕ)). (z ++ x ∷ []) ++ more) (sym a) ∙ e) in
      record {
        short = omega (arith, ap length k, length-append list (x ∷ more), f.long);
        is = sym (ap (λ (z : List (ℕ × ℕ)). take (length before) z) (sym k) ∙ (take-append-le (length before) list (x ∷ more) (omega (arith, f.long)) ∙ take_all (length before) list (omega (arith, f.long))));
      }
