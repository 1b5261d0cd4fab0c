-- What the reading of words says of the words.
use Rattle.std.proofs.Common.{◌≡◌, ℕ, zero, suc, ◌+◌, Bool, true, false, ◌&&◌, List, [], ◌∷◌, length, ℤ, MatchResult, Some, None, Ok, Err, Option, Result, sym, refl, ap, ◌∙◌, subst, ap₂, inl, inr, arith}
use Rattle.std.specs.Option.{option_map, ok_or}
use Rattle.std.specs.Str.Parse.{digits_value}
use Rattle.std.proofs.lemmas.Bool.{cases_Bool, ltb-true, leb-true}
use Rattle.jobtext.specs.declared.fault.Fault.{Fault}
use Rattle.jobtext.specs.declared.fault.Flaw.TheVariants.{WrongWord}
use Rattle.jobtext.specs.declared.section.Section.{Section}
use Rattle.jobtext.specs.Due.{Misfit, Counted, Numbered, AllNumbered, BrokenOff}
use Rattle.jobtext.specs.Numbers.{Count, is_count, count_of, negative, digits, signed, Number, amount, number_of}
use Rattle.jobtext.specs.Readings.{Read, Reads, found, due, follow, numbers}
use Rattle.jobtext.specs.Words.{Word}
use Rattle.jobtext.proofs.Numerals.{by_tests, is_count_lem, no_count}

both : (x y : Bool) → (x && y) ≡ true → (x ≡ true) × (y ≡ true)
both true y e = (refl, e)
both false y e = cc

-- a word that is worth something is a count
pub count_said : (w : Word) (n : ℕ) → count_of w ≡ Some n → Count w × (n ≡ digits_value 10 w)
count_said w n e =
    elim (cases_Bool (is_count w)) [
      | inl counts ↦
          let some = both _ _ counts in
          let few = both _ _ some.1 in
          let c : Count w = (ltb-true 0 (length w) some.0, leb-true (length w) 10 few.0, by_tests.to w few.1) in
          let worth = sym e ∙ is_count_lem w c.0 c.1 c.2 in (c, cc)
      | inr other ↦ let worth = sym e ∙ no_count w other in cc
    ]

-- a word that is worth nothing is no count
pub count_not : (w : Word) → count_of w ≡ None → Count w → ⊥
count_not w e c = let worth = sym e ∙ is_count_lem w c.0 c.1 c.2 in cc

-- a word that is worth something is a number
pub number_said : (w : Word) (z : ℤ) → number_of w ≡ Some z → Number w × (z ≡ amount w)
unfolding number_of
number_said w z e = by (count_of (digits w)) refl
  where
    by : (o : Option ℕ) → count_of (digits w) ≡ o → Number w × (z ≡ amount w)
    by (Some n) told =
        let said = count_said (digits w) n told in
        let worth = sym e ∙ ap (option_map (signed (negative w))) told in
        let same : z ≡ signed (negative w) n = cc in (said.0, same ∙ ap (signed (negative w)) said.1)
    by None told = let worth = sym e ∙ ap (option_map (signed (negative w))) told in cc

-- a word that is worth nothing is no number
pub number_not : (w : Word) → number_of w ≡ None → Number w → ⊥
unfolding number_of
number_not w e c = by (count_of (digits w)) refl
  where
    by : (o : Option ℕ) → count_of (digits w) ≡ o → ⊥
    by (Some n) told = let worth = sym e ∙ ap (option_map (signed (negative w))) told in cc
    by None told = count_not (digits w) told c

-- this holds of what is read and of the words left, or that of the fault
abbrev Says : {X : Type 0} → (X → List Word → Type 0) → (Fault → Type 0) → Read X → Type 0
Says P Q (Ok p) = P p.0 p.1
Says P Q (Err e) = Q e

-- what the definition of the reading says, the answer says
answered : {X : Type 0} (P : X → List Word → Type 0) (Q : Fault → Type 0) (d : Read X) (r : Result X Fault) (left : List Word) → Says P Q d → Reads d r left → MatchResult r (λ x. P x left) Q
answered P Q d (Ok x) left said told = subst (Says P Q) told said
answered P Q d (Err e) left said told = subst (Says P Q) told said

-- the word that is due, by what makes a word right and what it is worth
module _ {X : Type 0} (of : Word → Option X) (Right : Word → Type 0) (Worth : X → Word → Type 0) (said : (w : Word) (x : X) → of w ≡ Some x → Right w × Worth x w) (wrong : (w : Word) → of w ≡ None → Right w → ⊥) (s : Section) (k : ℕ) where
  -- the first of the words is right, and is worth this
  abbrev First : List Word → X → List Word → Type 0
  First ws x left = (w : Word) × (ws ≡ w ∷ left) × Right w × Worth x w

  due_says : (ws : List Word) → Says (First ws) (Misfit Right ws s k) (due of s k ws)
  unfolding due
  due_says [] = refl
  due_says (w ∷ ws) = by (of w) refl
    where
      by : (o : Option X) → of w ≡ o → Says (First (w ∷ ws)) (Misfit Right (w ∷ ws) s k) (ok_or (option_map (λ x. (x, ws)) o) (found WrongWord s k))
      by (Some x) is = let worth = said w x is in (w, refl, worth.0, worth.1)
      by None is = (wrong w is, refl)

-- a count is due
pub counted : (s : Section) (k : ℕ) (ws left : List Word) (r : Result ℕ Fault) → Reads (due count_of s k ws) r left → MatchResult r (λ n. Counted ws n left) (λ e. Misfit Count ws s k e)
counted s k ws left r told =
    answered (Counted ws) (Misfit Count ws s k) (due count_of s k ws) r left (due_says count_of Count (λ n w. n ≡ digits_value 10 w) count_said count_not s k ws) told

-- a number is due
number_says : (s : Section) (k : ℕ) (ws : List Word) → Says (Numbered ws) (Misfit Number ws s k) (due number_of s k ws)
number_says s k ws = due_says number_of Number (λ z w. z ≡ amount w) number_said number_not s k ws

pub numbered : (s : Section) (k : ℕ) (ws left : List Word) (r : Result ℤ Fault) → Reads (due number_of s k ws) r left → MatchResult r (λ z. Numbered ws z left) (λ e. Misfit Number ws s k e)
numbered s k ws left r told = answered (Numbered ws) (Misfit Number ws s k) (due number_of s k ws) r left (number_says s k ws) told

numbers_say : (n : ℕ) (s : Section) (k : ℕ) (ws : List Word) → Says (AllNumbered ws) (BrokenOff n ws s k) (numbers n s k ws)
unfolding numbers
numbers_say zero s k ws = ([], refl, tt, refl)
numbers_say (suc n) s k ws = first (λ mid. numbers_say n s (k + 1) mid) (due number_of s (k + 1) ws) (number_says s (k + 1) ws)
  where
    rest : (z : ℤ) (mid : List Word) → Numbered ws z mid → (d : Read (List ℤ)) → Says (AllNumbered mid) (BrokenOff n mid s (k + 1)) d → Says (AllNumbered ws) (BrokenOff (suc n) ws s k) (follow d (λ zs left. Ok (z ∷ zs, left)))
    rest z mid one (Ok p) all = (one.0 ∷ all.0, one.1 ∙ ap (λ l. one.0 ∷ l) all.1, (one.2, all.2), ap₂ ◌∷◌ one.3 all.3)
    rest z mid one (Err e) cut =
        (one.0 ∷ cut.0, cut.1, one.1 ∙ ap (λ l. one.0 ∷ l) cut.2, (one.2, cut.3), omega (arith, cut.4), subst (λ m. Misfit Number cut.1 s m e) (omega arith) cut.5)

    first : ((mid : List Word) → Says (AllNumbered mid) (BrokenOff n mid s (k + 1)) (numbers n s (k + 1) mid)) → (d : Read ℤ) → Says (Numbered ws) (Misfit Number ws s (k + 1)) d → Says (AllNumbered ws) (BrokenOff (suc n) ws s k) (follow d (λ z left. follow (numbers n s (k + 1) left) (λ zs left. Ok (z ∷ zs, left))))
    first others (Ok p) one = rest p.0 p.1 one (numbers n s (k + 1) p.1) (others p.1)
    first others (Err e) wrong = ([], ws, refl, tt, omega arith, subst (λ m. Misfit Number ws s m e) (omega arith) wrong)

-- numbers are due, one after another
pub numbers_cases : (n : ℕ) (s : Section) (k : ℕ) (ws left : List Word) (r : Result (List ℤ) Fault) → Reads (numbers n s k ws) r left → MatchResult r (λ zs. AllNumbered ws zs left) (λ e. BrokenOff n ws s k e)
numbers_cases n s k ws left r told = answered (AllNumbered ws) (BrokenOff n ws s k) (numbers n s k ws) r left (numbers_say n s k ws) told
