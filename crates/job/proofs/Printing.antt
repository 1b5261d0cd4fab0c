-- From the answers of a replay to what the report says.
use Rattle.std.proofs.Common.{◌≡◌, ℕ, suc, ◌+◌, ◌*◌, ◌≤◌, min, Bool, true, false, cond, List, [], ◌∷◌, ◌++◌, length, take, drop, ℤ, Some, None, Option, Result, String, IfOk, string_bytes, sym, refl, ap, ◌∙◌, subst, subst₂, mul-le-mul_right, suc-mul, add-one, arith}
use Rattle.std.specs.List.{flat_map}
use Rattle.std.proofs.lemmas.Result.{IfOk-weaker}
use Rattle.std.proofs.lemmas.List.{take-take, take-append-le, take_all, length-take, length-drop, length-map}
use Rattle.std.proofs.lemmas.List.Sums.{sum_by-cons}
use Rattle.std.proofs.lemmas.Bool.{false≢true}
use Rattle.hull.specs.declared.corner.Corner.{Corner}
use Rattle.hull.specs.declared.direction.Direction.{Direction}
use Rattle.book.specs.declared.call.Call.{Call}
use Rattle.book.specs.declared.call.Call.TheVariants as call
use Rattle.book.specs.declared.call.Comparison.{Comparison}
use Rattle.book.specs.declared.call.Request.{Request}
use Rattle.book.specs.declared.call.Request.TheVariants.{Write, Compare}
use Rattle.book.specs.declared.call.Answer.{Answer}
use Rattle.book.specs.declared.call.Answer.TheVariants as answer
use Rattle.book.specs.declared.refusal.Refusal.{Refusal}
use Rattle.book.specs.Books.{Book, Said, outcome, decided, questions, first_no, opened}
use Rattle.walks.specs.Answers.{Answers, no_object, no_placement, no_place, AllHeld}
use Rattle.walks.specs.Answers as answers
use Rattle.walks.specs.Runs.{stretch, Compared, Ran, Replayed}
use Rattle.walks.specs.Runs as runs
use Rattle.jobtext.specs.declared.entry.Entry.{Entry}
use Rattle.jobtext.specs.declared.fault.Blame.{Blame}
use Rattle.jobtext.specs.declared.fault.Fault.{Fault}
use Rattle.jobtext.specs.Forms.{mark}
use Rattle.jobtext.specs.Readings.{requests_of, blames_of}
use Rattle.report.specs.Reports.{report_from, report_of, placement_line, pair_line}
use Rattle.job.specs.Prints.{job_items, pair_places, compares, comparisons_in, Prints, ended, wrote, listed, no_write, no_list}

-- a call that writes lists nothing
lists? : Answer → Bool
lists? answer.Started = false
lists? (answer.Entered n) = false
lists? (answer.Filed n) = false
lists? (answer.Removed n) = false
lists? (answer.Listed n t) = true
lists? (answer.Refused why) = false

no_lists : (b : Book) (c : Call) (o : Option Refusal) → lists? (decided b c o).answer ≡ false
unfolding lists?
no_lists b call.Start None = refl
no_lists b (call.Facet m n) None = refl
no_lists b (call.Tie m x y) None = refl
no_lists b (call.Close m) None = refl
no_lists b (call.Drop m) None = refl
no_lists b c (Some why) = refl

said_lists : {b d : Book} {c : Call} {n t : ℕ} → Said b c (answer.Listed n t) d → ⊥
unfolding lists? outcome
said_lists {b} {d} {c} s = false≢true (sym (no_lists b c (first_no (questions b c))) ∙ ap lists? (sym s.answer))

-- a comparison's stretch of a list that is long enough
full_stretch : (places k : ℕ) (xs : List (ℕ × ℕ)) → suc k * places ≤ length xs → length (stretch places k xs) ≡ places
full_stretch places k xs h = length-take places (drop (k * places) xs) ∙ omega (arith, length-drop (k * places) xs, suc-mul k places)

-- the first pairs of a stretch
first_pairs : (places k : ℕ) (before lists pairs : List (ℕ × ℕ)) → AllHeld pairs (stretch places k before) (stretch places k lists) → take (length pairs) (drop (k * places) lists) ≡ pairs
first_pairs places k before lists pairs h =
    let l : length pairs ≤ places = omega (arith, h.room, length-take places (drop (k * places) before)) in
    sym (take-take (length pairs) places (drop (k * places) lists) l) ∙ (ap (take (length pairs)) h.is ∙ (take-append-le (length pairs) pairs _ (omega arith) ∙ take_all (length pairs) pairs (omega arith)))

module _ {H : Type 0} (begun : Corner → H) (grown : H → Corner → H) (reaches : H → Direction → ℤ) (faced : Type 0) (unrounded : List Corner → Direction → ℤ) (fault : Option Fault) (before lists : List (ℕ × ℕ)) where
  abbrev RanSo : ℕ → Book → List Request → List Answer → ℕ → Book → Type 0
  RanSo = Ran begun grown reaches faced unrounded pair_places before lists

  abbrev Text : ℕ → List Answer → List Blame → List ℕ
  Text = report_from lists pair_places fault

  ran_le : {k n : ℕ} {b d : Book} {rs : List Request} {xs : List Answer} → RanSo k b rs xs n d → k ≤ n
  ran_le runs.none = omega arith
  ran_le (runs.wrote s r) = ran_le r
  ran_le (runs.asked s r) = omega (arith, ran_le r)

  -- a call that writes
  after_write : {k : ℕ} {b c : Book} {call : Call} (a : Answer) (xs : List Answer) {rs : List Request} {blame : Blame} {bs : List Blame} → Said b call a c → Prints begun grown reaches faced unrounded fault k c rs bs (Text k xs bs) → Prints begun grown reaches faced unrounded fault k b (Write call ∷ rs) (blame ∷ bs) (Text k (a ∷ xs) (blame ∷ bs))
  unfolding report_from
  after_write answer.Started xs s p = wrote s refl p
  after_write (answer.Entered n) xs s p = wrote s refl p
  after_write (answer.Filed n) xs s p = wrote s refl p
  after_write (answer.Removed n) xs s p = wrote s refl p
  after_write (answer.Listed n t) xs s p = absurd (said_lists s)
  after_write (answer.Refused why) xs s p = no_write s

  -- a comparison
  after_compare : {k : ℕ} {b : Book} {c : Comparison} {a : Answer} (xs : List Answer) {rs : List Request} {blame : Blame} {bs : List Blame} → suc k * pair_places ≤ length before → Compared begun grown reaches faced unrounded b c (stretch pair_places k before) (stretch pair_places k lists) a
      → Prints begun grown reaches faced unrounded fault (k + 1) b rs bs (Text (k + 1) xs bs) → Prints begun grown reaches faced unrounded fault k b (Compare c ∷ rs) (blame ∷ bs) (Text k (a ∷ xs) (blame ∷ bs))
  unfolding report_from
  after_compare {k} xs h (no_object y e) p = no_list (full_stretch pair_places k before h) (no_object y e)
  after_compare {k} xs h (no_placement y n e) p = no_list (full_stretch pair_places k before h) (no_placement y n e)
  after_compare {k} xs h (no_place y e w f) p = no_list (full_stretch pair_places k before h) (no_place y e w f)
  after_compare {k} {b} {c} xs {rs} {blame} {bs} h (answers.listed y e {pairs} {tests} w f) p =
      subst (λ (z : List (ℕ × ℕ)). Prints begun grown reaches faced unrounded fault k b (Compare c ∷ rs) (blame ∷ bs) (placement_line k (length pairs) tests ++ (flat_map pair_line z ++ Text (k + 1) xs bs))) (sym (first_pairs pair_places k before lists pairs f))
      (listed y e w (omega (arith, f.room, full_stretch pair_places k before h)) p)

  pub prints : {k n : ℕ} {b d : Book} {rs : List Request} {xs : List Answer} (bs : List Blame) → n * pair_places ≤ length before → length bs ≡ length rs → RanSo k b rs xs n d → Prints begun grown reaches faced unrounded fault k b rs bs (Text k xs bs)
  unfolding report_from
  prints [] l e runs.none = ended
  prints (blame ∷ bs) l e runs.none = absurd (omega arith)
  prints [] l e (runs.wrote s r) = absurd (omega arith)
  prints (blame ∷ bs) l e (runs.wrote {answer} {answers = xs} s r) = after_write answer xs s (prints bs l (omega arith) r)
  prints [] l e (runs.asked s r) = absurd (omega arith)
  prints (blame ∷ bs) l e (runs.asked {k} {n} {b} {requests = rs} {answers = xs} s r) =
      after_compare xs (omega (arith, mul-le-mul_right pair_places (ran_le r), l)) s
      (subst (λ (m : ℕ). Prints begun grown reaches faced unrounded fault m b rs bs (Text m xs bs)) (sym (add-one k)) (prints bs l (omega arith) r))

-- a history ends after all its comparisons
pub ran_all : {H : Type 0} {begun : Corner → H} {grown : H → Corner → H} {reaches : H → Direction → ℤ} {faced : Type 0} {unrounded : List Corner → Direction → ℤ} {before lists : List (ℕ × ℕ)} {k n : ℕ} {b d : Book} {rs : List Request} {xs : List Answer} → Ran begun grown reaches faced unrounded pair_places before lists k b rs xs n d → n ≡ k + comparisons_in rs
ran_all runs.none = omega arith
ran_all (runs.wrote s r) = ran_all r
ran_all (runs.asked {c} {requests = rs} s r) = omega (arith, ran_all r, sum_by-cons (λ x. cond (compares x) 1 0) (Compare c) rs)

-- the report on a replay of all requests, with places enough
module _ {H E Z : Type 0} {begun : Corner → H} {grown : H → Corner → H} {reaches : H → Direction → ℤ} {faced : Type 0} {unrounded : List Corner → Direction → ℤ} (fault : Option Fault) (entries : List Entry) {xs ys : List Answer} {before lists : List (ℕ × ℕ)} {table : ℕ} (text : Result (String Z) E) where
  pub replay_prints : Replayed begun grown reaches faced unrounded mark table (requests_of entries) xs ys pair_places before lists → IfOk text (λ s. string_bytes s ≡ report_of lists pair_places fault ys (blames_of entries)) → length xs ≡ length entries → length ys ≡ length xs → length before ≡ comparisons_in (requests_of entries) * pair_places → table ≡ job_items
      → IfOk text (λ s. Prints begun grown reaches faced unrounded fault 0 (opened mark job_items) (requests_of entries) (blames_of entries) (string_bytes s))
  replay_prints r told nx ny nl nt =
      let rs = requests_of entries in
      let nr : length rs ≡ length entries = length-map entries (λ e. e.request) in
      let nb : length (blames_of entries) ≡ length rs = length-map entries (λ e. e.blame) ∙ sym nr in
      let a : take (min (length rs) (length xs)) rs ≡ rs = take_all _ rs (omega (arith, nr)) in
      let b : take (min (length rs) (length xs)) ys ≡ ys = take_all _ ys (omega (arith, nr)) in
      let k = subst₂ (λ (qs : List Request) (zs : List Answer). Ran begun grown reaches faced unrounded pair_places before lists 0 (opened mark table) qs zs r.comparisons r.last) a b r.ran in
      let p = prints begun grown reaches faced unrounded fault before lists (blames_of entries) (omega (arith, ap (λ (c : ℕ). c * pair_places) (ran_all k))) nb k in
      IfOk-weaker text _ _ (λ s e. subst₂ (λ (t : ℕ) (z : List ℕ). Prints begun grown reaches faced unrounded fault 0 (opened mark t) rs (blames_of entries) z) nt (sym e) p) told
