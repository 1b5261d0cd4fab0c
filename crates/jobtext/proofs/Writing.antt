-- A job that is written down spells itself.
use Rattle.std.proofs.Common.{◌≡◌, ℕ, suc, ◌^◌, ◌<◌, true, false, List, [], ◌∷◌, ◌++◌, map, length, get_or, ℤ, pos, negsuc, nat_abs, Some, decimal, sym, refl, ap, ◌∙◌, subst, append_assoc, append-nil, arith, rules}
use Rattle.std.specs.List.{flat_map, AllByRecursion}
use Rattle.std.specs.Str.Parse.{AllDigits, digits_value}
use Rattle.std.specs.Fmt.{signed_decimal}
use Rattle.std.proofs.lemmas.Fmt.{decimal_nonempty, length-decimal-le, digits_decimal, digits_value-decimal}
use Rattle.std.proofs.ByRecursion.{All-append}
use Rattle.std.proofs.lemmas.Str.Parse.{IsNumeralModel, numerals_by_value, tells_digits, digit_from_value}
use Rattle.std.proofs.lemmas.Bool.Decides.{nat_tests}
use Rattle.jobtext.specs.declared.kind.Kind.{Kind}
use Rattle.jobtext.specs.declared.kind.Kind.TheVariants as kind
use Rattle.jobtext.specs.declared.section.Section.{Section}
use Rattle.jobtext.specs.declared.section.Section.TheVariants as section
use Rattle.jobtext.specs.Forms.{Form, facet, tie, placement}
use Rattle.jobtext.specs.Jobs.{Job, Says, SaysRows, Table, Spells}
use Rattle.jobtext.specs.Numbers.{count_of, number_of}
use Rattle.jobtext.specs.Sections.{opening, word_of_kind}
use Rattle.jobtext.specs.Words.{Word, separator, ended, words_after, words}
use Rattle.jobtext.specs.Writing.{section_words, job_words, spaced, written, Writable, Complete}
use Rattle.jobtext.proofs.Numerals.{is_count_lem, minus_yes, minus_no, number_some}

by_digits : IsNumeralModel (AllDigits 10) (digits_value 10)
by_digits = numerals_by_value (AllDigits 10) tells_digits

-- a count as it is written
count_written : (n : ℕ) → n < 10 ^ 10 → count_of (decimal n) ≡ Some n
count_written n small =
    let fits : n < 2 ^ 64 = omega arith in
    is_count_lem (decimal n) (decimal_nonempty n fits) (length-decimal-le 10 n (omega arith) small fits) (digits_decimal by_digits n fits) ∙ ap Some (digits_value-decimal by_digits n fits)

-- digits have no minus in front
no_minus : (ds : List ℕ) → AllDigits 10 ds → (r : List ℕ) → ds ≡ 45 ∷ r → ⊥
no_minus [] d r e = let z : ◌≡◌ {A = ℕ} 0 1 = cc in omega arith
no_minus (c ∷ cs) d r e =
    let low = digit_from_value c d.0 in
    let same : c ≡ 45 = ap (λ l. get_or l 0 0) e in omega arith

-- a number as it is written
number_written : (z : ℤ) → nat_abs z < 10 ^ 10 → number_of (signed_decimal z) ≡ Some z
number_written (pos n) small =
    let fits : n < 2 ^ 64 = omega arith in
    let plain = minus_no (decimal n) (no_minus (decimal n) (digits_decimal by_digits n fits)) in
    sym (number_some (decimal n) (decimal n) false n plain.0 plain.1 (sym (count_written n small)))
number_written (negsuc n) small =
    let minus = minus_yes (45 ∷ decimal (suc n)) (decimal (suc n)) refl in
    sym (number_some (45 ∷ decimal (suc n)) (decimal (suc n)) true (suc n) minus.0 minus.1 (sym (count_written (suc n) small)))

-- a word: some bytes, and no separator
record Solid (w : Word) : Type 0 where
  pub some : 0 < length w
  pub letters : AllByRecursion (λ b. separator b ≡ false) w

digits_solid : (ds : List ℕ) → AllDigits 10 ds → AllByRecursion (λ b. separator b ≡ false) ds
digits_solid [] d = tt
digits_solid (c ∷ cs) d = (let low = digit_from_value c d.0 in grind (arith, nat_tests), digits_solid cs d.1)

decimal_solid : (n : ℕ) → n < 10 ^ 10 → Solid (decimal n)
decimal_solid n small =
    let fits : n < 2 ^ 64 = omega arith in record { some = decimal_nonempty n fits; letters = digits_solid (decimal n) (digits_decimal by_digits n fits) }

signed_solid : (z : ℤ) → nat_abs z < 10 ^ 10 → Solid (signed_decimal z)
signed_solid (pos n) small = decimal_solid n small
signed_solid (negsuc n) small = let rest = decimal_solid (suc n) small in record { some = omega arith; letters = (refl, rest.letters) }

-- a word in front
word_in_front : (v w bs : List ℕ) → AllByRecursion (λ b. separator b ≡ false) w → words_after v (w ++ (32 ∷ bs)) ≡ ended (v ++ w) ++ words bs
word_in_front v [] bs h = ap (λ l. ended l ++ words bs) (sym (append-nil v))
word_in_front v (b ∷ w) bs h =
    rw h.0 (word_in_front (v ++ (b ∷ [])) w bs h.1 ∙ ap (λ l. ended l ++ words bs) (append_assoc v (b ∷ []) w))

-- words with a space after each are parted again
spaced_words : (ws : List Word) → AllByRecursion Solid ws → words (spaced ws) ≡ ws
spaced_words [] h = refl
spaced_words ([] ∷ ws) h = absurd (omega (arith, h.0.some))
spaced_words ((b ∷ w) ∷ ws) h =
    word_in_front [] (b ∷ w) (spaced ws) h.0.letters ∙ ap (λ l. (b ∷ w) ∷ l) (spaced_words ws h.1)

-- the words of a row
row_says : (r : List ℤ) → AllByRecursion (λ z. nat_abs z < 10 ^ 10) r → Says (map signed_decimal r) r
row_says [] h = tt
row_says (z ∷ zs) h = (number_written z h.0, row_says zs h.1)

row_solid : (r : List ℤ) → AllByRecursion (λ z. nat_abs z < 10 ^ 10) r → AllByRecursion Solid (map signed_decimal r)
row_solid [] h = tt
row_solid (z ∷ zs) h = (signed_solid z h.0, row_solid zs h.1)

-- the names of the sections and kinds
opening_solid : (s : Section) → Solid (opening s)
opening_solid section.Kind = record { some = omega arith; letters = search rules }
opening_solid section.Facets = record { some = omega arith; letters = search rules }
opening_solid section.Ties = record { some = omega arith; letters = search rules }
opening_solid section.Facets2 = record { some = omega arith; letters = search rules }
opening_solid section.Ties2 = record { some = omega arith; letters = search rules }
opening_solid section.Placements = record { some = omega arith; letters = search rules }

kind_solid : (k : Kind) → Solid (word_of_kind k)
kind_solid kind.Box = record { some = omega arith; letters = search rules }
kind_solid kind.Many = record { some = omega arith; letters = search rules }
kind_solid kind.Ball = record { some = omega arith; letters = search rules }

module _ (f : Form) where
  rows_say : (rs : List (List ℤ)) → AllByRecursion (λ r. length r ≡ f.width) rs → AllByRecursion (λ r. AllByRecursion (λ z. nat_abs z < 10 ^ 10) r) rs → SaysRows f.width (map (map signed_decimal) rs) rs
  rows_say [] w h = tt
  rows_say (r ∷ rs) w h = (w.0, row_says r h.0, rows_say rs w.1 h.1)

  rows_joined : (rs : List (List ℤ)) → flat_map (map signed_decimal) rs ≡ flat_map (λ row. row) (map (map signed_decimal) rs)
  rows_joined [] = refl
  rows_joined (r ∷ rs) = ap (λ l. map signed_decimal r ++ l) (rows_joined rs)

  rows_solid : (rs : List (List ℤ)) → AllByRecursion (λ r. AllByRecursion (λ z. nat_abs z < 10 ^ 10) r) rs → AllByRecursion Solid (flat_map (map signed_decimal) rs)
  rows_solid [] h = tt
  rows_solid (r ∷ rs) h = All-append Solid (map signed_decimal r) (flat_map (map signed_decimal) rs) (row_solid r h.0) (rows_solid rs h.1)

  -- a section as it is written
  table_written : (s : Section) (rs : List (List ℤ)) → Writable f rs → Table f s rs (section_words s rs)
  table_written s rs h =
      record {
        count = decimal (length rs);
        cells = map (map signed_decimal) rs;
        counts = count_written (length rs) h.few;
        says = rows_say rs h.wide h.small;
        are = ap (λ l. opening s ∷ decimal (length rs) ∷ l) (rows_joined rs);
      }

  section_solid : (s : Section) (rs : List (List ℤ)) → Writable f rs → AllByRecursion Solid (section_words s rs)
  section_solid s rs h = (opening_solid s, (decimal_solid (length rs) h.few, rows_solid rs h.small))

  -- a section before other words
  section_first : (s : Section) (rs : List (List ℤ)) (ws : List Word) → Writable f rs → AllByRecursion Solid ws → AllByRecursion Solid (section_words s rs ++ ws)
  section_first s rs ws h rest = All-append Solid (section_words s rs) ws (section_solid s rs h) rest

-- the words of a job
job_solid : (j : Job) → Complete j → AllByRecursion Solid (job_words j)
job_solid j h =
    let p = section_words section.Placements j.placements in
    let t = section_words section.Ties2 j.standing.ties ++ p in
    let f = section_words section.Facets2 j.standing.facets ++ t in
    let ties2 = section_first tie section.Ties2 j.standing.ties p h.ties2 (section_solid placement section.Placements j.placements h.placements) in
    let facets2 = section_first facet section.Facets2 j.standing.facets t h.facets2 ties2 in
    let ties = section_first tie section.Ties j.moved.ties f h.ties facets2 in
    (opening_solid section.Kind, (kind_solid j.kind, section_first facet section.Facets j.moved.facets (section_words section.Ties j.moved.ties ++ f) h.facets ties))

job_spells : (j : Job) → Complete j → Spells j (job_words j)
job_spells j h =
    record {
      facets = section_words section.Facets j.moved.facets;
      ties = section_words section.Ties j.moved.ties;
      facets2 = section_words section.Facets2 j.standing.facets;
      ties2 = section_words section.Ties2 j.standing.ties;
      placements = section_words section.Placements j.placements;
      in_facets = table_written facet section.Facets _ h.facets;
      in_ties = table_written tie section.Ties _ h.ties;
      in_facets2 = table_written facet section.Facets2 _ h.facets2;
      in_ties2 = table_written tie section.Ties2 _ h.ties2;
      in_placements = table_written placement section.Placements _ h.placements;
      are = refl;
    }

-- a job that is written down spells itself
pub written_spells : (j : Job) → Complete j → Spells j (words (written j))
unfolding written
written_spells j h = subst (λ ws. Spells j ws) (sym (spaced_words (job_words j) (job_solid j h))) (job_spells j h)
