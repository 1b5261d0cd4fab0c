-- How the reading of a job ends.
use Rattle.std.proofs.Common.{◌≡◌, ℕ, ◌<◌, ◌≤◌, List, [], ◌++◌, length, Some, None, Ok, Err, Vec, vec_items, Option, Result, sym, refl, ap, ◌∙◌, subst}
use mathlib.Core.Path.{transport}
use Rattle.std.specs.Result.{result_err}
use Rattle.std.specs.declared.alloc.Global.{Global}
use Rattle.std.proofs.lemmas.List.{map-append}
use Rattle.std.proofs.lemmas.Bool.{cond-true, cond-false, le-leb, lt-leb}
use Rattle.jobtext.specs.declared.fault.Fault.{Fault}
use Rattle.jobtext.specs.declared.fault.Flaw.TheVariants.{WrongLength}
use Rattle.jobtext.specs.declared.kind.Kind.{Kind}
use Rattle.jobtext.specs.declared.section.Section.TheVariants as section
use Rattle.jobtext.specs.declared.entry.Entry.{Entry}
use Rattle.jobtext.specs.Readings.{requests_of, blames_of, Read, Reading, headed, begun, body_of, reading_of, script_of, found}
use Rattle.jobtext.specs.Sections.{kind_of}
use Rattle.jobtext.proofs.Fronts.{cut_at, begins_so}
use Rattle.jobtext.specs.Jobs.{Job, Spells}
use Rattle.jobtext.proofs.Meaning.{spelled_read}
use Rattle.jobtext.proofs.Writing.{written_spells}
use Rattle.jobtext.specs.Words.{Word, words, job_limit}
use Rattle.script.specs.declared.stop.Stop.{Stop}
use Rattle.script.specs.declared.stop.Stop.TheVariants.{Faulty}
use Rattle.script.specs.Runs.{Holds, Grown, Ran}
use Rattle.script.specs.declared.script.Script.{Script}
use Rattle.script.specs.Scripts.{Tells, Asks, Follows}

-- the parts of a script, as they were computed
pub tells_at : (p q : Option Kind × Option Fault) (v w : Vec Entry Global) (t : Reading) → p ≡ q → v ≡ w → Tells (record { kind = q.0; entries = w; fault = q.1 }) t → Tells (record { kind = p.0; entries = v; fault = p.1 }) t
tells_at p q v w t e f h = transport (λ i. Tells (record { kind = (sym e i).0; entries = sym f i; fault = (sym e i).1 }) t) h

-- no kind is read
pub tells_stopped : (ws : List Word) (v : Vec Entry Global) (e : Fault) → Holds v [] → headed kind_of section.Kind ws ≡ Err e → Tells (record { kind = None; entries = v; fault = Some e }) (reading_of ws)
unfolding reading_of
tells_stopped ws v e none told =
    subst (λ (d : Read Kind). Tells (record { kind = None; entries = v; fault = Some e }) (begun d)) (sym told) (record { kind = refl; entries = none; fault = refl })

-- a kind is read, and then the body
module _ (ws : List Word) (k : Kind) (mid : List Word) (told : headed kind_of section.Kind ws ≡ Ok (k, mid)) (a : List Entry) (none : a ≡ []) (v : Vec Entry Global) where
  ends_so : (left : Result (List Word) Fault) → Grown a (vec_items v) (body_of mid).entries → (body_of mid).ends ≡ left → Tells (record { kind = Some k; entries = v; fault = result_err left }) (reading_of ws)
  unfolding reading_of
  ends_so left grown ends =
      subst (λ (d : Read Kind). Tells (record { kind = Some k; entries = v; fault = result_err left }) (begun d)) (sym told)
      (record { kind = refl; entries = grown ∙ ap (λ l. l ++ (body_of mid).entries) none; fault = ap result_err (sym ends) })

  -- all is read
  pub tells_whole : (left : List Word) → Ran (body_of mid) a (vec_items v) (Ok tt) left → Tells (record { kind = Some k; entries = v; fault = None }) (reading_of ws)
  tells_whole left ran = ends_so (Ok left) ran.outcome.0 ran.outcome.1

  -- a fault ends the reading
  pub tells_fault : (x : Stop) (e : Fault) (left : List Word) → x ≡ Faulty e → Ran (body_of mid) a (vec_items v) (Err x) left → Tells (record { kind = Some k; entries = v; fault = Some e }) (reading_of ws)
  tells_fault x e left same ran =
      let at = subst (λ (y : Stop). Ran (body_of mid) a (vec_items v) (Err y) left) same ran in ends_so (Err e) at.outcome.0 at.outcome.1

-- not too many bytes
pub script_words : (bytes : List ℕ) → length bytes ≤ job_limit → script_of bytes ≡ reading_of (words bytes)
unfolding script_of
script_words bytes short = cond-true _ _ _ (le-leb (length bytes) job_limit short)

-- too many bytes
pub tells_too_long : (bytes : List ℕ) (v : Vec Entry Global) → Holds v [] → job_limit < length bytes → Tells (record { kind = None; entries = v; fault = Some (found WrongLength section.Kind 0) }) (script_of bytes)
unfolding script_of
tells_too_long bytes v none long =
    subst (λ (t : Reading). Tells (record { kind = None; entries = v; fault = Some (found WrongLength section.Kind 0) }) t) (sym (cond-false _ _ _ (lt-leb (length bytes) job_limit long)))
    (record { kind = refl; entries = none; fault = refl })

-- what is read is what is meant, and is cut at the first wrong word
pub follows : (s : Script) (bytes : List ℕ) → Tells s (reading_of (words bytes)) → Follows s bytes
follows s bytes t =
    record {
      meant = meant;
      back = λ j h e. meant j (subst (λ bs. Spells j (words bs)) (sym e) (written_spells j h));
      cut = λ b e. cut_at ws b (sym t.fault ∙ e);
      begins = λ vs. let more = begins_so ws vs in (requests_of more.0, ap requests_of more.1 ∙ map-append _ _ more.0 ∙ ap (λ l. l ++ requests_of more.0) (sym (ap requests_of t.entries)));
    }
  where
    ws : List Word
    ws = words bytes

    meant : (j : Job) → Spells j (words bytes) → Asks s j
    meant j h =
        let m = spelled_read j (words bytes) h in
        record { kind = t.kind ∙ m.kind; requests = ap requests_of t.entries ∙ m.requests; blamed = ap blames_of t.entries ∙ m.blamed; fault = t.fault ∙ m.fault }
