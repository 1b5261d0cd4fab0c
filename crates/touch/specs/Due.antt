-- What is due in a job.
use Rattle.std.specs.Prelude.{◌≡◌, ℕ, ◌+◌, ◌⊎◌, List, ℤ}
use Rattle.jobtext.specs.declared.fault.Fault.{Fault as TextFault}
use Rattle.jobtext.specs.declared.section.Section.{Section}
use Rattle.jobtext.specs.Due.{AllNumbered, BrokenOff}
use Rattle.touch.specs.declared.refusal.Fault.{Fault}
use Rattle.touch.specs.declared.refusal.Refusal.{Refusal}
use Rattle.touch.specs.Faults.{Refused, of_text}

-- of n numbers that are due after word k of the section, one is missing or is no number, or they are out of range
abbrev pub NotRead : ℕ → (List ℤ → Type 0) → Fault → List (List ℕ) → Section → ℕ → Refusal → Type 0
NotRead n InRange f before s k e =
    ((t : TextFault) × BrokenOff n before s k t × (e ≡ of_text t))
    ⊎ ((ns : List ℤ) × (after : List (List ℕ)) × AllNumbered before ns after × (InRange ns → ⊥) × Refused f s (k + n) e)
