use Rattle.std.proofs.Common.{length, Some, sym, ap, ◌∙◌, subst, ⊎_elim, arith, false-eqb}
use Rattle.std.specs.Str.Parse.{AllDigits, digits_value}
use Rattle.std.proofs.lemmas.Int.Digits.{digits_more}
use Rattle.std.proofs.lemmas.List.{take_all}
use Rattle.std.proofs.lemmas.Bool.{eqb-true}
use Rattle.std.proofs.lemmas.Str.Parse.{digit_at}
use Rattle.jobtext.proofs.Numerals.{one_more, short, short_front, is_count_lem, no_digits, many_digits, other_bytes}
use Rattle.words.proofs.number.read_count.Goals as goal

pub returns-then-not-is_ascii_digit : goal.returns-then-not-is_ascii_digit
returns-then-not-is_ascii_digit c =
    record {
      value = sym (other_bytes c.args.word.now (λ all.
          let at = digit_at c.args.word.now c.loop-byte.byte-index all c.loop-byte-test.true in
          ⊎_elim (λ (low : _). omega arith) (λ (high : _). omega arith) c.if-not-is_ascii_digit.ensures.cases));
      cases = λ k.
          let at = digit_at c.args.word.now c.loop-byte.byte-index k.2 c.loop-byte-test.true in
          ⊎_elim (λ (low : _). omega arith) (λ (high : _). omega arith) c.if-not-is_ascii_digit.ensures.cases;
      bound = tt;
    }

pub overflow_mul-total : goal.overflow_mul-total
overflow_mul-total c = let h = short_front c.args.word.now c.loop-byte.byte-index c.loop-byte.invariant.0 c.loop-byte.invariant.2 in omega arith

pub overflow_add-total : goal.overflow_add-total
overflow_add-total c =
    let h = short_front c.args.word.now c.loop-byte.byte-index c.loop-byte.invariant.0 c.loop-byte.invariant.2 in
    omega (arith, c.if-not-is_ascii_digit.ensures.cases)

pub loop-byte-preserved : goal.loop-byte-preserved
loop-byte-preserved c =
    let told = c.if-not-is_ascii_digit.ensures in
    let w = c.args.word.now in
    let i = c.loop-byte.byte-index in
    let l = c.loop-byte-test.true in
    let step = one_more w i l told.cases in
    (c.loop-byte.invariant.0, omega (arith, step), digits_more 10 w i l c.loop-byte.invariant.2 told.bound)

pub returns : goal.returns
returns c =
    let w = c.args.word.now in
    let all = take_all c.loop-byte.byte-index w c.loop-byte-test.false in
    let whole = subst (AllDigits 10) all c.loop-byte.invariant.2 in
    let same = c.loop-byte.invariant.1 ∙ ap (digits_value 10) all in
    record {
      value = ap Some same ∙ sym (is_count_lem w (omega (arith, false-eqb _ 0 c.if-is_empty.ensures)) c.loop-byte.invariant.0 whole);
      cases = ((omega (arith, false-eqb _ 0 c.if-is_empty.ensures), c.loop-byte.invariant.0, whole), same);
      bound = omega (arith, short w c.loop-byte.invariant.0 whole, same);
    }

pub returns-then-is_empty : goal.returns-then-is_empty
returns-then-is_empty c =
    let w = c.args.word.now in
    record {
      value = sym (⊎_elim (λ e. no_digits w (omega (arith, eqb-true (length w) 0 (sym c.is_empty.ensures ∙ e)))) (λ many. many_digits w many.1) c.then-is_empty.either);
      cases = λ k. ⊎_elim (λ e. let none = eqb-true (length w) 0 (sym c.is_empty.ensures ∙ e) in omega (arith, k.0, none)) (λ many. omega (arith, k.1, many.1)) c.then-is_empty.either;
      bound = tt;
    }
