-- A row of numbers, read one after another.
use Rattle.std.proofs.Common.{◌≡◌, ℕ, zero, suc, ◌+◌, ◌-◌, ◌<◌, List, ◌∷◌, Ok, ap, arith}
use Rattle.jobtext.specs.declared.section.Section.{Section}
use Rattle.jobtext.specs.Numbers.{number_of}
use Rattle.jobtext.specs.Readings.{due, follow, numbers}
use Rattle.jobtext.specs.Words.{Word}

-- of the numbers that are due, the first is read, and then the others
pub numbers_first : (n : ℕ) (s : Section) (k : ℕ) (ws : List Word) → 0 < n → numbers n s k ws ≡ follow (due number_of s (k + 1) ws) (λ z left. follow (numbers (n - 1) s (k + 1) left) (λ zs left. Ok (z ∷ zs, left)))
unfolding numbers
numbers_first zero s k ws some = absurd (omega arith)
numbers_first (suc n) s k ws some = ap (λ (m : ℕ). follow (due number_of s (k + 1) ws) (λ z left. follow (numbers m s (k + 1) left) (λ zs left. Ok (z ∷ zs, left)))) (omega arith)
