-- What is due in a job, and what is there instead.
use Rattle.std.specs.Prelude.{◌≡◌, ℕ, ◌+◌, ◌<◌, List, [], ◌∷◌, ◌++◌, map, length, ℤ}
use Rattle.std.specs.List.{AllByRecursion}
use Rattle.std.specs.Str.Parse.{digits_value}
use Rattle.jobtext.specs.declared.fault.Fault.{Fault}
use Rattle.jobtext.specs.declared.fault.Flaw.TheVariants.{WrongWord, WrongLength}
use Rattle.jobtext.specs.declared.section.Section.{Section}
use Rattle.jobtext.specs.Numbers.{Count, Number, amount}
use Rattle.jobtext.specs.Readings.{found}
use Rattle.jobtext.specs.Words.{Word}

-- the word that is due, at word k of the section, is missing or is not right
abbrev pub Misfit : (Word → Type 0) → List Word → Section → ℕ → Fault → Type 0
Misfit Right [] s k e = e ≡ found WrongLength s k
Misfit Right (w ∷ ws) s k e = (Right w → ⊥) × (e ≡ found WrongWord s k)

-- the first of the words is a count of this value, and these are the others
abbrev pub Counted : List Word → ℕ → List Word → Type 0
Counted before n after = (w : Word) × (before ≡ w ∷ after) × Count w × (n ≡ digits_value 10 w)

-- the first of the words is a number of this value, and these are the others
abbrev pub Numbered : List Word → ℤ → List Word → Type 0
Numbered before n after = (w : Word) × (before ≡ w ∷ after) × Number w × (n ≡ amount w)

-- the first of the words are numbers of these values, and these are the others
abbrev pub AllNumbered : List Word → List ℤ → List Word → Type 0
AllNumbered before ns after = (ws : List Word) × (before ≡ ws ++ after) × AllByRecursion Number ws × (ns ≡ map amount ws)

-- of n numbers that are due after word k of the section, some are there, and the next is missing or is not right
abbrev pub BrokenOff : ℕ → List Word → Section → ℕ → Fault → Type 0
BrokenOff n before s k e =
    (ws : List Word) × (rest : List Word) × (before ≡ ws ++ rest) × AllByRecursion Number ws × (length ws < n) × Misfit Number rest s (k + length ws + 1) e
