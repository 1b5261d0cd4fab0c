-- What holds of every element of an array that a function made, where each call keeps what the next one needs.
use Rattle.std.proofs.Common.{ℕ, zero, suc, ◌+◌, ◌<◌, List, get_or, sym, subst, arith}
use Rattle.std.specs.Array.{IsFromFnResult, IsFromFnResultFrom}
use Rattle.std.specs.Fn.{Mut, Called}

module _ {F B : Type 0} (g : Mut F (ℕ × Unit {0}) B) (Keeps : F → Type 0) (P : ℕ → B → Type 0) (call : (p q : F) (i : ℕ) (y : B) → Keeps p → Called g p (i, tt) y q → P i y × Keeps q) where
  made_from : (n i k : ℕ) (f : F) (ys : List B) (d : B) → Keeps f → IsFromFnResultFrom g f ys i n → k < n → P (i + k) (get_or ys (i + k) d)
  made_from zero i k f ys d s (made) h = absurd (omega arith)
  made_from (suc n) i zero f ys d s (q, y, at, called, rest) h =
      subst (λ j. P j (get_or ys j d)) (omega arith) (subst (P i) (sym (at.1 d)) (call f q i y s called).0)
  made_from (suc n) i (suc k) f ys d s (q, y, at, called, rest) h =
      subst (λ j. P j (get_or ys j d)) (omega arith) (made_from n (i + 1) k q ys d (call f q i y s called).1 rest (omega arith))

  pub made : (n : ℕ) (f : F) (ys : List B) (d : B) → Keeps f → IsFromFnResult g f ys n → (i : ℕ) → i < n → P i (get_or ys i d)
  made n f ys d s r i h = subst (λ j. P j (get_or ys j d)) (omega arith) (made_from n 0 i f ys d s r.each h)
