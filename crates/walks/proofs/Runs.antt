-- Histories, one call longer.
use Rattle.std.proofs.Common.{◌≡◌, ℕ, suc, ◌+◌, ◌*◌, ◌<◌, ◌≤◌, min, List, [], ◌∷◌, ◌++◌, length, get_or, take, drop, set, ℤ, sym, refl, ap, ◌∙◌, subst, subst₂, ⊎_elim, mul-le-mul_right, suc-mul, zero-mul, arith}
use Rattle.std.proofs.lemmas.List.{take_all, take-take, take_more, take_more_set, drop_all, drop-take, drop-drop}
use Rattle.std.proofs.lemmas.Bool.{cases_lt}
use Rattle.hull.specs.declared.corner.Corner.{Corner}
use Rattle.hull.specs.declared.direction.Direction.{Direction}
use Rattle.book.specs.declared.call.Call.{Call}
use Rattle.book.specs.declared.call.Comparison.{Comparison}
use Rattle.book.specs.declared.call.Request.{Request}
use Rattle.book.specs.declared.call.Request.TheVariants.{Write, Compare}
use Rattle.book.specs.declared.call.Answer.{Answer}
use Rattle.book.specs.Books.{Book, Said}
use Rattle.walks.specs.Runs.{stretch, Compared, Ran, none, wrote, asked}

module _ {H : Type 0} (begun : Corner → H) (grown : H → Corner → H) (reaches : H → Direction → ℤ) (faced : Type 0) (unrounded : List Corner → Direction → ℤ) (places : ℕ) (before : List (ℕ × ℕ)) where
  abbrev RanTo : List (ℕ × ℕ) → ℕ → Book → List Request → List Answer → ℕ → Book → Type 0
  RanTo = Ran begun grown reaches faced unrounded places before

  ran_le : {after : List (ℕ × ℕ)} {k n : ℕ} {b d : Book} {rs : List Request} {xs : List Answer} → RanTo after k b rs xs n d → k ≤ n
  ran_le none = omega arith
  ran_le (wrote s r) = ran_le r
  ran_le (asked s r) = omega (arith, ran_le r)

  -- a history stands where the stretches of its comparisons stay
  ran_kept : {after later : List (ℕ × ℕ)} {k n : ℕ} {b d : Book} {rs : List Request} {xs : List Answer} → ((j : ℕ) → j < n → stretch places j after ≡ stretch places j later) → RanTo after k b rs xs n d → RanTo later k b rs xs n d
  ran_kept f none = none
  ran_kept f (wrote s r) = wrote s (ran_kept f r)
  ran_kept f (asked {k} {b} {c} {answer} s r) =
      asked (subst (λ (l : List (ℕ × ℕ)). Compared begun grown reaches faced unrounded b c (stretch places k before) l answer) (f k (omega (arith, ran_le r))) s) (ran_kept f r)

  pub ran_write : {after : List (ℕ × ℕ)} {k n : ℕ} {b c d : Book} {rs : List Request} {xs : List Answer} {call : Call} {answer : Answer} → RanTo after k b rs xs n c → Said c call answer d → RanTo after k b (rs ++ Write call ∷ []) (xs ++ answer ∷ []) n d
  ran_write none s = wrote s none
  ran_write (wrote t r) s = wrote t (ran_write r s)
  ran_write (asked t r) s = asked t (ran_write r s)

  ran_compare : {after : List (ℕ × ℕ)} {k n : ℕ} {b d : Book} {rs : List Request} {xs : List Answer} {c : Comparison} {answer : Answer} → RanTo after k b rs xs n d → Compared begun grown reaches faced unrounded d c (stretch places n before) (stretch places n after) answer → RanTo after k b (rs ++ Compare c ∷ []) (xs ++ answer ∷ []) (suc n) d
  ran_compare none s = asked s none
  ran_compare (wrote t r) s = wrote t (ran_compare r s)
  ran_compare (asked t r) s = asked t (ran_compare r s)

-- ---- stretches by where they begin
module _ (places n : ℕ) where
  -- where stretch n begins in a list
  abbrev pub begins : List (ℕ × ℕ) → ℕ
  begins lists = min (n * places) (length lists)

  pub next_begins : (lists : List (ℕ × ℕ)) → min (begins lists + places) (length lists) ≡ min (suc n * places) (length lists)
  next_begins lists = omega (arith, suc-mul n places)

  pub drop_begins : (lists : List (ℕ × ℕ)) → drop (begins lists) lists ≡ drop (n * places) lists
  drop_begins lists = ⊎_elim
      (λ (h : n * places < length lists). let e : begins lists ≡ n * places = omega arith in ap (λ (k : ℕ). drop k lists) e)
      (λ (h : length lists ≤ n * places). drop_all (begins lists) lists (omega arith) ∙ sym (drop_all (n * places) lists h))
      (cases_lt (n * places) (length lists))

  take_begins : (k : ℕ) (l : List (ℕ × ℕ)) → k ≡ begins l → take k l ≡ take (n * places) l
  take_begins k l e = ⊎_elim
      (λ (h : n * places < length l). let f : k ≡ n * places = omega arith in ap (λ (i : ℕ). take i l) f)
      (λ (h : length l ≤ n * places). take_all k l (omega arith) ∙ sym (take_all (n * places) l h))
      (cases_lt (n * places) (length l))

  -- lists that agree up to there agree on all stretches before
  pub stretches_kept : (l m : List (ℕ × ℕ)) → length l ≡ length m → take (begins l) l ≡ take (begins l) m → (j : ℕ) → j < n → stretch places j l ≡ stretch places j m
  stretches_kept l m e f j h = cut l ∙ (ap (λ (z : List (ℕ × ℕ)). drop (j * places) (take (j * places + places) z)) same ∙ sym (cut m))
    where
      same : take (n * places) l ≡ take (n * places) m
      same = sym (take_begins (begins l) l refl) ∙ (f ∙ take_begins (begins l) m (omega arith))

      le : j * places + places ≤ n * places
      le = let k : suc j ≤ n = omega arith in omega (arith, mul-le-mul_right places k, suc-mul j places)

      cut : (z : List (ℕ × ℕ)) → stretch places j z ≡ drop (j * places) (take (j * places + places) (take (n * places) z))
      cut z = sym (ap (drop (j * places)) (take-take (j * places + places) (n * places) z le) ∙ drop-take (j * places) places z)

-- ---- a history so far, and where the next comparison's stretch begins
module _ {H : Type 0} (begun : Corner → H) (grown : H → Corner → H) (reaches : H → Direction → ℤ) (faced : Type 0) (unrounded : List Corner → Direction → ℤ) (places : ℕ) (before : List (ℕ × ℕ)) (b : Book) where
  pub record Running (rs : List Request) (xs : List Answer) (d : Book) (after : List (ℕ × ℕ)) (from : ℕ) : Type 0 where
    pub comparisons : ℕ
    pub ran : Ran begun grown reaches faced unrounded places before after 0 b rs xs comparisons d
    pub kept : drop (comparisons * places) after ≡ drop (comparisons * places) before
    pub long : length after ≡ length before
    pub from_is : from ≡ begins places comparisons after

  pub running_none : Running [] [] b before 0
  running_none = record { comparisons = 0; ran = none; kept = refl; long = refl; from_is = omega (arith, zero-mul places) }

  pub running_write : {rs : List Request} {xs : List Answer} {c d : Book} {after : List (ℕ × ℕ)} {from : ℕ} {call : Call} {answer : Answer} → Running rs xs c after from → Said c call answer d → Running (rs ++ Write call ∷ []) (xs ++ answer ∷ []) d after from
  running_write r s = record { comparisons = r.comparisons; ran = ran_write begun grown reaches faced unrounded places before r.ran s; kept = r.kept; long = r.long; from_is = r.from_is }

  -- a comparison writes its own stretch only
  pub record Within (after later : List (ℕ × ℕ)) (from to : ℕ) : Type 0 where
    pub long : length later ≡ length after
    pub front : take from later ≡ take from after
    pub back : drop to later ≡ drop to after
    pub to_is : to ≡ min (from + places) (length after)

  pub running_compare : {rs : List Request} {xs : List Answer} {d : Book} {after later : List (ℕ × ℕ)} {from to : ℕ} {c : Comparison} {answer : Answer} → Running rs xs d after from → Within after later from to
      → Compared begun grown reaches faced unrounded d c (take places (drop from after)) (take places (drop from later)) answer → Running (rs ++ Compare c ∷ []) (xs ++ answer ∷ []) d later to
  running_compare {rs} {xs} {d} {after} {later} {from} {to} {c} {answer} r w s =
      let n = r.comparisons in
      let e : from ≡ begins places n after = r.from_is in
      let f : from ≡ begins places n later = omega (arith, w.long) in
      let x : take places (drop from after) ≡ stretch places n before = ap (take places) (ap (λ (k : ℕ). drop k after) e ∙ (drop_begins places n after ∙ r.kept)) in
      let y : take places (drop from later) ≡ stretch places n later = ap (take places) (ap (λ (k : ℕ). drop k later) f ∙ drop_begins places n later) in
      let g : take (begins places n after) after ≡ take (begins places n after) later = subst (λ (k : ℕ). take k after ≡ take k later) e (sym w.front) in
      let t : to ≡ begins places (suc n) after = w.to_is ∙ (ap (λ (k : ℕ). min (k + places) (length after)) e ∙ next_begins places n after) in
      let u : to ≡ begins places (suc n) later = omega (arith, w.long) in
      let a : drop (suc n * places) after ≡ drop (suc n * places) before = step after ∙ (ap (drop places) r.kept ∙ sym (step before)) in
      record {
        comparisons = suc n;
        ran = ran_compare begun grown reaches faced unrounded places before (ran_kept begun grown reaches faced unrounded places before (stretches_kept places n after later (sym w.long) g) r.ran)
            (subst₂ (λ (p q : List (ℕ × ℕ)). Compared begun grown reaches faced unrounded d c p q answer) x y s);
        kept = sym (drop_begins places (suc n) later) ∙ (ap (λ (k : ℕ). drop k later) (sym u) ∙ (w.back ∙ (ap (λ (k : ℕ). drop k after) t ∙ (drop_begins places (suc n) after ∙ a))));
        long = w.long ∙ r.long;
        from_is = u;
      }
    where
      step : (l : List (ℕ × ℕ)) → drop (suc r.comparisons * places) l ≡ drop places (drop (r.comparisons * places) l)
      step l = ap (λ (k : ℕ). drop k l) (suc-mul r.comparisons places) ∙ sym (drop-drop places (r.comparisons * places) l)

  -- one call more, by its place among the calls and the answers
  module _ (requests : List Request) (answers : List Answer) (i : ℕ) (in-requests : i < length requests) (in-answers : i < length answers) (from : ℕ) (after : List (ℕ × ℕ)) where
    later : {d : Book} {after' : List (ℕ × ℕ)} {from' : ℕ} (e r : Request) (answer : Answer) → get_or requests i e ≡ r → Running (take i requests ++ r ∷ []) (take i answers ++ answer ∷ []) d after' from' → Running (take (i + 1) requests) (take (i + 1) (set answers i answer)) d after' from'
    later {d} {after'} {from'} e r answer is k =
        subst₂ (λ (x : List Request) (y : List Answer). Running x y d after' from') (ap (λ (z : Request). take i requests ++ z ∷ []) (sym is) ∙ sym (take_more requests i e in-requests)) (sym (take_more_set answers i answer in-answers)) k

    pub next_write : {c d : Book} (e : Request) (call : Call) (answer : Answer) → get_or requests i e ≡ Write call → Running (take i requests) (take i answers) c after from → Said c call answer d → Running (take (i + 1) requests) (take (i + 1) (set answers i answer)) d after from
    next_write e call answer is r s = later e (Write call) answer is (running_write r s)

    pub next_compare : {d : Book} {after' : List (ℕ × ℕ)} {from' : ℕ} (e : Request) (c : Comparison) (answer : Answer) → get_or requests i e ≡ Compare c → Running (take i requests) (take i answers) d after from → Within after after' from from'
        → Compared begun grown reaches faced unrounded d c (take places (drop from after)) (take places (drop from after')) answer → Running (take (i + 1) requests) (take (i + 1) (set answers i answer)) d after' from'
    next_compare e c answer is r w s = later e (Compare c) answer is (running_compare r w s)
