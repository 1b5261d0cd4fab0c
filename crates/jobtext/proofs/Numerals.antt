-- What the digits of a word are worth.
use Rattle.std.proofs.Common.{◌≡◌, ℕ, ◌+◌, ◌-◌, ◌*◌, ◌^◌, ◌<◌, ◌≤◌, Bool, true, false, cond, eqb, ltb, leb, List, [], ◌∷◌, length, get_or, take, Some, None, sym, refl, ap, ◌∙◌, inl, inr, arith}
use Rattle.std.specs.Option.{option_map}
use Rattle.std.specs.Str.Parse.{AllDigits, digits_value}
use Rattle.std.specs.Char.{digit_value as digitValue}
use Rattle.std.specs.Int.{IsInRange}
use Rattle.std.specs.Str.{all_ascii_digits}
use Rattle.std.proofs.lemmas.Int.Digits.{digits_value_more}
use Rattle.std.proofs.lemmas.List.{length-take}
use Rattle.std.proofs.lemmas.Str.Parse.{IsNumeralModel, numerals_by_value, tells_digits, tells_all_ascii_digits, digits_value_short}
use Rattle.std.proofs.lemmas.Bool.{cases_Bool, eqb-true, and_from, and_left, and_right, lt-ltb, le-ltb, le-leb, lt-leb, cond-true, cond-false}
use Rattle.std.proofs.lemmas.Bool.Decides.{nat_tests}
use Rattle.jobtext.specs.Numbers.{is_count, count_of, negative, digits, signed, number_of}

pub by_tests : IsNumeralModel (λ ds. all_ascii_digits ds ≡ true) (digits_value 10)
by_tests = numerals_by_value _ tells_all_ascii_digits

digit_value : (c : ℕ) → IsInRange 48 57 c → digitValue c ≡ c - 48
digit_value c h = grind (arith, nat_tests)

pub one_more : (w : List ℕ) (i : ℕ) → i < length w → IsInRange 48 57 (get_or w i 0) → digits_value 10 (take (i + 1) w) ≡ digits_value 10 (take i w) * 10 + (get_or w i 0 - 48)
one_more w i l h = digits_value_more 10 w i l ∙ ap (λ d. digits_value 10 (take i w) * 10 + d) (digit_value _ h)

pub short : (w : List ℕ) → length w ≤ 10 → AllDigits 10 w → digits_value 10 w < 10 ^ 10
short w l d = digits_value_short (numerals_by_value (AllDigits 10) tells_digits) w 10 d l

pub short_front : (w : List ℕ) (i : ℕ) → length w ≤ 10 → AllDigits 10 (take i w) → digits_value 10 (take i w) < 10 ^ 10
short_front w i l d = short (take i w) (omega (arith, length-take i w)) d

-- 1 to 10 digits are a count
pub is_count_lem : (w : List ℕ) → 0 < length w → length w ≤ 10 → AllDigits 10 w → count_of w ≡ Some (digits_value 10 w)
unfolding count_of
is_count_lem w some few all =
    cond-true (is_count w) _ _ (and_from _ _ (lt-ltb 0 (length w) some) (and_from _ _ (le-leb (length w) 10 few) (by_tests.from w all)))

pub no_count : (w : List ℕ) → is_count w ≡ false → count_of w ≡ None
unfolding count_of
no_count w e = cond-false (is_count w) _ _ e

pub no_digits : (w : List ℕ) → length w ≤ 0 → count_of w ≡ None
no_digits w none = no_count w (and_left _ _ (le-ltb 0 (length w) none))

pub many_digits : (w : List ℕ) → 10 < length w → count_of w ≡ None
many_digits w many = no_count w (and_right _ _ (and_left _ _ (lt-leb (length w) 10 many)))

pub other_bytes : (w : List ℕ) → (AllDigits 10 w → ⊥) → count_of w ≡ None
other_bytes w other =
    no_count w (and_right (ltb 0 (length w)) _ (and_right (leb (length w) 10) _ (elim (cases_Bool (all_ascii_digits w)) [ inl e ↦ absurd (other (by_tests.to w e)) | inr e ↦ e ])))

pub minus_yes : (w r : List ℕ) → w ≡ 45 ∷ r → (true ≡ negative w) × (r ≡ digits w)
minus_yes w r e = (sym (ap negative e), sym (ap digits e))

pub minus_no : (w : List ℕ) → ((r : List ℕ) → w ≡ 45 ∷ r → ⊥) → (false ≡ negative w) × (w ≡ digits w)
minus_no [] no_minus = (refl, refl)
minus_no (b ∷ w) no_minus =
    elim (cases_Bool (eqb b 45)) [ inl e ↦ absurd (no_minus w (ap (λ x. x ∷ w) (eqb-true b 45 e))) | inr e ↦ (sym e, ap (λ t. cond t w (b ∷ w)) (sym e)) ]

-- the digits of a word with this sign are a count
pub number_some : (w r : List ℕ) (minus : Bool) (n : ℕ) → minus ≡ negative w → r ≡ digits w → Some n ≡ count_of r → Some (signed minus n) ≡ number_of w
unfolding number_of
number_some w r minus n sign rest told =
    ap (λ b. option_map (signed b) (Some n)) sign ∙ ap (option_map (signed (negative w))) (told ∙ ap count_of rest)

pub number_none : (w r : List ℕ) → r ≡ digits w → None ≡ count_of r → None ≡ number_of w
unfolding number_of
number_none w r rest told = ap (option_map (signed (negative w))) (told ∙ ap count_of rest)
