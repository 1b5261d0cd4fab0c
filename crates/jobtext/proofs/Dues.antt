-- The word that is due, and the numbers that are due.
use Rattle.std.proofs.Common.{◌≡◌, ℕ, suc, ◌+◌, ◌<◌, List, [], ◌∷◌, ◌++◌, length, take, ℤ, IfOk, Some, None, Ok, Err, Option, Result, sym, refl, ap, ◌∙◌, subst, append_assoc, append-nil}
use mathlib.Core.Path.{transport}
use Rattle.std.proofs.lemmas.List.{take_more_set}
use Rattle.std.proofs.Math.ListN.{set}
use Rattle.std.specs.Option.{ok_or}
use Rattle.jobtext.specs.declared.fault.Fault.{Fault}
use Rattle.jobtext.specs.declared.fault.Flaw.TheVariants.{WrongWord, WrongLength}
use Rattle.jobtext.specs.declared.section.Section.{Section}
use Rattle.jobtext.specs.Numbers.{number_of}
use Rattle.jobtext.specs.Readings.{Read, Reads, found, due, follow, headed, numbers}
use Rattle.jobtext.specs.Sections.{opens}
use Rattle.jobtext.specs.Words.{Word}

-- what holds anyway holds of what is made
pub made_anyway : {X Y P : Type 0} (r : Result X Y) → P → IfOk r (λ _. P)
made_anyway (Ok x) h = h
made_anyway (Err y) h = tt

-- a number that is known where something is made, and what it is equal to
pub made_equal : {X Y : Type 0} (r : Result X Y) (n j k : ℕ) → j ≡ k → IfOk r (λ _. n ≡ j) → IfOk r (λ _. n ≡ k)
made_equal r n j k e h = subst (λ i. IfOk r (λ _. n ≡ i)) e h

-- the fault is handed on
pub reads_fault : {X : Type 0} (d : Read X) (r : Result X Fault) (left : List Word) (y e : Fault) → r ≡ Err y → y ≡ e → d ≡ Err e → Reads d r left
reads_fault {X} d r left y e IfOk same told =
    subst (λ (v : Result X Fault). Reads d v left) (sym (IfOk ∙ ap Err same)) told

module _ {X : Type 0} (of : Word → Option X) (s : Section) (k : ℕ) where
  -- no word is left
  pub due_missing : (ws left : List Word) (r : Result X Fault) (e : Fault) → ws ≡ [] → e ≡ found WrongLength s k → r ≡ Err e → Reads (due of s k ws) r left
  unfolding due
  due_missing ws left r e none told IfOk = reads_fault (due of s k ws) r left e e IfOk refl (ap (due of s k) none ∙ ap Err (sym told))

  -- the word that is due was looked at
  pub due_told : (ws : List Word) (w : Word) (left : List Word) (o : Option X) (r : Result X Fault) (e : Fault) → ws ≡ w ∷ left → o ≡ of w → e ≡ found WrongWord s k → r ≡ ok_or o e → Reads (due of s k ws) r left
  unfolding due
  due_told ws w left o r e cut told wrong IfOk =
      subst (λ (v : Result X Fault). Reads (due of s k ws) v left) (sym (IfOk ∙ (λ i. ok_or (told i) (wrong i))))
      (subst (λ (l : List Word). Reads (due of s k l) (ok_or (of w) (found WrongWord s k)) left) (sym cut) (at_once (of w) refl))
    where
      at_once : (x : Option X) → of w ≡ x → Reads (due of s k (w ∷ left)) (ok_or x (found WrongWord s k)) left
      at_once (Some x) e = rw e refl
      at_once None e = rw e refl

-- the name of a section, and then word 2
module _ {X : Type 0} (of : Word → Option X) (s : Section) (ws : List Word) where
  pub headed_fault : (e : Fault) → due (opens s) s 1 ws ≡ Err e → headed of s ws ≡ Err e
  unfolding headed
  headed_fault e told = ap (λ (d : Read (Unit {0})). follow d (λ _ left. due of s 2 left)) told

  pub headed_read : (mid : List Word) (r : Result X Fault) (left : List Word) (s' : Section) (k : ℕ) → due (opens s) s 1 ws ≡ Ok (tt, mid) → s' ≡ s → k ≡ 2 → Reads (due of s' k mid) r left → Reads (headed of s ws) r left
  unfolding headed
  headed_read mid r left s' k told same two rest =
      subst (λ (d : Read (Unit {0})). Reads (follow d (λ _ left. due of s 2 left)) r left) (sym told) (transport (λ i. Reads (due of (same i) (two i) mid) r left) rest)

-- these numbers come in front of those that are read
abbrev pub fronted : List ℤ → Read (List ℤ) → Read (List ℤ)
fronted xs r = follow r (λ zs left. Ok (xs ++ zs, left))

fronted_none : (r : Read (List ℤ)) → fronted [] r ≡ r
fronted_none (Ok p) = refl
fronted_none (Err e) = refl

-- all numbers are still to be read
pub numbers_none : (s : Section) (k : ℕ) (ws : List Word) (n m : ℕ) → n ≡ m → fronted [] (numbers n s k ws) ≡ numbers m s k ws
numbers_none s k ws n m e = fronted_none (numbers n s k ws) ∙ ap (λ i. numbers i s k ws) e

module _ (s : Section) (k : ℕ) (ws : List Word) (xs : List ℤ) where
  -- one more number is read
  pub numbers_more : (n m : ℕ) (z : ℤ) (left : List Word) → n ≡ suc m → due number_of s (k + 1) ws ≡ Ok (z, left) → fronted xs (numbers n s k ws) ≡ fronted (xs ++ (z ∷ [])) (numbers m s (k + 1) left)
  unfolding numbers
  numbers_more n m z left e told =
      ap (λ i. fronted xs (numbers i s k ws)) e ∙ ap (λ (r : Read ℤ). fronted xs (follow r (λ z left. follow (numbers m s (k + 1) left) (λ zs left. Ok (z ∷ zs, left))))) told ∙ moved (numbers m s (k + 1) left)
    where
      moved : (r : Read (List ℤ)) → fronted xs (follow r (λ zs left. Ok (z ∷ zs, left))) ≡ fronted (xs ++ (z ∷ [])) r
      moved (Ok p) = ap (λ (zs : List ℤ). Ok (zs, p.1)) (sym (append_assoc xs (z ∷ []) p.0))
      moved (Err e) = refl

  -- a number is missing, or is none
  pub numbers_stop : (n m : ℕ) (e : Fault) → n ≡ suc m → due number_of s (k + 1) ws ≡ Err e → fronted xs (numbers n s k ws) ≡ Err e
  unfolding numbers
  numbers_stop n m e some told =
      ap (λ i. fronted xs (numbers i s k ws)) some ∙ ap (λ (r : Read ℤ). fronted xs (follow r (λ z left. follow (numbers m s (k + 1) left) (λ zs left. Ok (z ∷ zs, left))))) told

  -- no number is due any more
  pub numbers_done : (n : ℕ) → n ≡ 0 → fronted xs (numbers n s k ws) ≡ Ok (xs, ws)
  unfolding numbers
  numbers_done n none =
      ap (λ i. fronted xs (numbers i s k ws)) none ∙ ap (λ (zs : List ℤ). Ok (zs, ws)) (append-nil xs)

-- one more number is written to its place in a row
pub numbers_step : (s t : Section) (k m n p i : ℕ) (ws left : List Word) (row : List ℤ) (x z : ℤ) (all : Read (List ℤ)) → i < length row → n ≡ suc p → x ≡ z → t ≡ s → m ≡ k + 1 → due number_of s (k + 1) ws ≡ Ok (z, left) → fronted (take i row) (numbers n s k ws) ≡ all → fronted (take (i + 1) (set row i x)) (numbers p t m left) ≡ all
numbers_step s t k m n p i ws left row x z all inside less same section taken told whole =
    (λ j. fronted (longer j) (numbers p (section j) (taken j) left)) ∙ sym (numbers_more s k ws (take i row) n p z left less told) ∙ whole
  where
    longer : take (i + 1) (set row i x) ≡ take i row ++ (z ∷ [])
    longer = take_more_set row i x inside ∙ ap (λ y. take i row ++ (y ∷ [])) same
