use Rattle.std.proofs.Common.{IfOk, Some, None, sym, ap, ◌∙◌, subst}
use Rattle.std.proofs.lemmas.Result.{IfOk-weaker}
use Rattle.jobtext.specs.declared.fault.Fault.{Fault}
use Rattle.jobtext.specs.Readings.{Reading, reading_of, script_of}
use Rattle.script.specs.Scripts.{Tells}
use Rattle.script.proofs.Telling.{script_words, tells_too_long, follows}
use Rattle.script.proofs.script.read.Goals as goal

pub returns-in-Ok : goal.returns-in-Ok
returns-in-Ok c =
    let bytes = c.args.bytes.now in
    let read = ap (λ p. reading_of p.left) c.in-Ok.ensures.1 in
    record {
      tells = subst (λ (t : Reading). IfOk c.read_words.result (λ s. Tells s t)) (read ∙ sym (script_words bytes c.in-Ok.ensures.0)) c.read_words.ensures;
      follows = λ _. IfOk-weaker c.read_words.result _ _ (λ s t. follows s _ (subst (Tells s) read t)) c.read_words.ensures;
    }

pub returns-in-Err-clause-tells : goal.returns-in-Err-clause-tells
returns-in-Err-clause-tells c =
    subst (λ (e : Fault). Tells (record { kind = None; entries = c.new-in-Err.result; fault = Some e }) (script_of c.args.bytes.now)) (sym c.in-Err.ensures.1) (tells_too_long _ _ c.new-in-Err.ensures.items c.in-Err.ensures.0)
