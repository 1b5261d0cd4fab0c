-- From a script to the reading that it tells of.
use Rattle.std.proofs.Common.{◌≡◌, ℕ, List, vec_items, Option, sym, ◌∙◌, subst, subst₂}
use Rattle.jobtext.specs.declared.entry.Entry.{Entry}
use Rattle.jobtext.specs.declared.fault.Fault.{Fault}
use Rattle.jobtext.specs.declared.kind.Kind.{Kind}
use Rattle.jobtext.specs.Readings.{requests_of, blames_of, script_of}
use Rattle.script.specs.declared.script.Script.{Script}
use Rattle.script.specs.Scripts.{Tells}
use Rattle.job.specs.Reports.{Reported, Reports}

-- a report on the script is a report on the job
pub reports : (s : Script) (bytes text : List ℕ) → Tells s (script_of bytes) → (k : Option Kind) → s.kind ≡ k → Reported s.fault (requests_of (vec_items s.entries)) (blames_of (vec_items s.entries)) k text → Reports bytes text
reports s bytes text tells k e r = record {
  told = subst₂ (λ (f : Option Fault) (j : Option Kind). Reported f (requests_of (script_of bytes).entries) (blames_of (script_of bytes).entries) j text) tells.fault (sym e ∙ tells.kind)
      (subst (λ (es : List Entry). Reported s.fault (requests_of es) (blames_of es) k text) tells.entries r);
}
