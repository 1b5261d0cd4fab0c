-- The line that reports a fault.
use Rattle.std.specs.Prelude.{◌≡◌, ℕ, List, ◌++◌, codes, decimal}
use Rattle.book.specs.Refusals.{number}
use Rattle.jobtext.specs.declared.fault.Fault.{Fault as TextFault}
use Rattle.jobtext.specs.declared.section.Section.{Section}
use Rattle.jobtext.specs.Faults.{flaw_number}
use Rattle.jobtext.specs.Sections.{name}
use Rattle.touch.specs.declared.refusal.Fault.{Fault}
use Rattle.touch.specs.declared.refusal.Fault.TheVariants.{Call, Text}
use Rattle.touch.specs.declared.refusal.Refusal.{Refusal}

-- the number of a fault in a report
abbrev pub fault_number : Fault → ℕ
fault_number (Call refusal) = number refusal
fault_number (Text flaw) = flaw_number flaw

-- the line that reports a refusal
abbrev pub refusal_line : Refusal → List ℕ
refusal_line r =
    codes "refused " ++ (decimal (fault_number r.fault) ++ (codes " in " ++ (name r.blame.section ++ (codes ", word " ++ decimal r.blame.word))))

-- a refusal for the fault at word k of the section
abbrev pub Refused : Fault → Section → ℕ → Refusal → Type 0
Refused f s k r = (r.fault ≡ f) × (r.blame.section ≡ s) × (r.blame.word ≡ k)

-- the refusal for a fault of the text
abbrev pub of_text : TextFault → Refusal
of_text e = record { fault = Text e.flaw; blame = e.blame }
