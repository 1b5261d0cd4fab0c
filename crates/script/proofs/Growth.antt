-- Stretches of a reading, one after another.
use Rattle.std.proofs.Common.{◌≡◌, ℕ, List, [], ◌∷◌, ◌++◌, Ok, Err, Result, sym, refl, ap, ◌∙◌, subst, append_assoc, append-nil}
use mathlib.Core.Path.{transport}
use Rattle.std.specs.declared.alloc.AllocError.{AllocError}
use Rattle.book.specs.declared.call.Request.{Request}
use Rattle.jobtext.specs.declared.fault.Fault.{Fault}
use Rattle.jobtext.specs.declared.section.Section.{Section}
use Rattle.jobtext.specs.declared.entry.Entry.{Entry}
use Rattle.jobtext.specs.Readings.{Read, Stretch, before, asked, then, resumed, onward, rows}
use Rattle.jobtext.specs.Forms.{Form}
use Rattle.jobtext.proofs.Rows.{asked_at}
use Rattle.jobtext.specs.Words.{Word}
use Rattle.script.specs.declared.stop.Stop.{Stop}
use Rattle.script.specs.declared.stop.Stop.TheVariants.{Faulty, OutOfMemory}
use Rattle.script.specs.Runs.{Grown, Ran, Outcome}

pub grown_none : (a : List Entry) → Grown a a []
grown_none a = sym (append-nil _)

pub grown_more : (a b c : List Entry) (es fs : List Entry) → Grown a b es → Grown b c fs → Grown a c (es ++ fs)
grown_more a b c es fs g h = h ∙ ap (λ l. l ++ fs) g ∙ append_assoc a es fs

module _ (t : Stretch) (a b : List Entry) where
  -- the stretch is read
  pub ran_done : (es : List Entry) (left : List Word) → Grown a b es → t ≡ record { entries = es; ends = Ok left } → Ran t a b (Ok tt) left
  ran_done es left grown told = subst (λ (u : Stretch). Ran u a b (Ok tt) left) (sym told) (record { outcome = (grown, refl) })

  -- a fault ends the stretch
  pub ran_fault : (es : List Entry) (r : Result (Unit {0}) Stop) (left : List Word) (y : Stop) (e : Fault) → r ≡ Err y → y ≡ Faulty e → Grown a b es → t ≡ record { entries = es; ends = Err e } → Ran t a b r left
  ran_fault es r left y e made same grown told =
      subst (λ v. Ran t a b v left) (sym (made ∙ ap Err same)) (subst (λ (u : Stretch). Ran u a b (Err (Faulty e)) left) (sym told) (record { outcome = (grown, refl) }))

  -- there is no memory
  pub ran_out : (r : Result (Unit {0}) Stop) (left : List Word) (y : Stop) (x : AllocError) → r ≡ Err y → y ≡ OutOfMemory x → Ran t a b r left
  ran_out r left y x made same = subst (λ v. Ran t a b v left) (sym (made ∙ ap Err same)) (record { outcome = tt })

-- requests before a stretch
pub before_ran : (a b c : List Entry) (es : List Entry) (t : Stretch) (r : Result (Unit {0}) Stop) (left : List Word) → Grown a b es → Ran t b c r left → Ran (before es t) a c r left
before_ran a b c es t r left g ran = record { outcome = longer r ran.outcome }
  where
    longer : (r : Result (Unit {0}) Stop) → Outcome t b c r left → Outcome (before es t) a c r left
    longer (Ok u) h = (grown_more a b c es t.entries g h.0, h.1)
    longer (Err (Faulty e)) h = (grown_more a b c es t.entries g h.0, h.1)
    longer (Err (OutOfMemory x)) h = tt

pub asked_ran : (a b c : List Entry) (q : Request) (s : Section) (k : ℕ) (t : Stretch) (r : Result (Unit {0}) Stop) (left : List Word) → Grown a b (asked_at s k q ∷ []) → Ran t b c r left → Ran (asked q s k t) a c r left
unfolding asked
asked_ran a b c q s k t r left g ran = before_ran a b c (asked_at s k q ∷ []) t r left g ran

-- a request was put at the word that was taken last
pub grown_at : (a b : List Entry) (q : Request) (s s' : Section) (k k' : ℕ) → s' ≡ s → k' ≡ k → Grown a b (asked_at s' k' q ∷ []) → Grown a b (asked_at s k q ∷ [])
grown_at a b q s s' k k' same equal g = g ∙ (λ i. a ++ (asked_at (same i) (equal i) q ∷ []))

-- rows after the word that was taken last
pub rows_at : (f : Form) (n : ℕ) (ws ws' : List Word) (a b : List Entry) (r : Result (Unit {0}) Stop) (left : List Word) (s s' : Section) (k k' : ℕ) → s' ≡ s → k' ≡ k → ws' ≡ ws → Ran (rows f n s' k' ws') a b r left → Ran (rows f n s k ws) a b r left
rows_at f n ws ws' a b r left s s' k k' same equal before ran = transport (λ i. Ran (rows f n (same i) (equal i) (before i)) a b r left) ran

-- what follows from what is read
module _ {X : Type 0} (d : Read X) (go : X → List Word → Stretch) where
  pub then_fault : (a : List Entry) (r : Result (Unit {0}) Stop) (left : List Word) (y : Stop) (e : Fault) → r ≡ Err y → y ≡ Faulty e → d ≡ Err e → Ran (then d go) a a r left
  unfolding then
  then_fault a r left y e made same told =
      ran_fault (then d go) a a [] r left y e made same (grown_none a) (ap (λ (u : Read X). then u go) told)

  pub then_ran : (a b : List Entry) (x : X) (mid : List Word) (r : Result (Unit {0}) Stop) (left : List Word) → d ≡ Ok (x, mid) → Ran (go x mid) a b r left → Ran (then d go) a b r left
  unfolding then
  then_ran a b x mid r left told ran = subst (λ (u : Read X). Ran (then u go) a b r left) (sym told) ran

-- one stretch after another
module _ (t : Stretch) (go : List Word → Stretch) where
  pub onward_ran : (a b c : List Entry) (mid : List Word) (r : Result (Unit {0}) Stop) (left : List Word) → Ran t a b (Ok tt) mid → Ran (go mid) b c r left → Ran (onward t go) a c r left
  unfolding onward
  onward_ran a b c mid r left first rest =
      before_ran a b c t.entries (resumed t.ends go) r left first.outcome.0 (subst (λ (e : Result (List Word) Fault). Ran (resumed e go) b c r left) (sym first.outcome.1) rest)

  pub onward_stop : (a b : List Entry) (mid : List Word) (r : Result (Unit {0}) Stop) (left : List Word) (x y : Stop) → r ≡ Err y → y ≡ x → Ran t a b (Err x) mid → Ran (onward t go) a b r left
  unfolding onward
  onward_stop a b mid r left (Faulty e) y made same first =
      ran_fault (onward t go) a b t.entries r left y e made same first.outcome.0 (cut t.ends first.outcome.1)
    where
      cut : (u : Result (List Word) Fault) → u ≡ Err e → before t.entries (resumed u go) ≡ record { entries = t.entries; ends = Err e }
      cut u h = ap (λ (v : Result (List Word) Fault). before t.entries (resumed v go)) h ∙ ap (λ (es : List Entry). record { entries = es; ends = Err e }) (append-nil t.entries)
  onward_stop a b mid r left (OutOfMemory x) y made same first = ran_out (onward t go) a b r left y x made same
