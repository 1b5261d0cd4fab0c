-- A reading is cut at its first wrong word, and nowhere else.
use Rattle.std.proofs.Common.{◌≡◌, ℕ, zero, suc, ◌+◌, ◌*◌, List, [], ◌∷◌, ◌++◌, Some, None, Ok, Err, Option, Result, sym, refl, ap, ◌∙◌, subst, append_assoc, append-nil, arith}
use Rattle.std.specs.Option.{option_map, ok_or}
use Rattle.std.specs.Result.{result_err}
use Rattle.book.specs.declared.call.Request.{Request}
use Rattle.jobtext.specs.declared.fault.Blame.{Blame}
use Rattle.jobtext.specs.declared.fault.Fault.{Fault}
use Rattle.jobtext.specs.declared.fault.Flaw.TheVariants.{WrongWord, WrongLength}
use Rattle.jobtext.specs.declared.kind.Kind.{Kind}
use Rattle.jobtext.specs.declared.section.Section.{Section}
use Rattle.jobtext.specs.declared.section.Section.TheVariants as section
use Rattle.jobtext.specs.Forms.{Form, facet, tie, placement, start, close}
use Rattle.jobtext.specs.Fronts.{wrong_at, missing_at, lacking, CutAt, Begins}
use Rattle.jobtext.specs.Numbers.{count_of, number_of}
use Rattle.jobtext.specs.declared.entry.Entry.{Entry}
use Rattle.jobtext.specs.Readings.{Read, Stretch, Reading, found, due, follow, headed, numbers, still, before, asked, then, onward, resumed, row_due, rows, facets_of, ties_of, placements_of, finished, body_of, begun, reading_of}
use Rattle.jobtext.specs.Sections.{opens, kind_of}
use Rattle.jobtext.specs.Words.{Word}

-- from these words on R is done with the words in front, and what is left may be any
record Used {O : Type 0} (R : List Word → O) (done : List Word → O) (ws left : List Word) : Type 0 where
  pub front : List Word
  pub are : ws ≡ front ++ left
  pub anyhow : (vs : List Word) → R (front ++ vs) ≡ done vs

-- one word is wrong: before it R lacks just this word, and what follows it may be any
record Wrong {O : Type 0} (R : List Word → O) (ws : List Word) (lack bad : O) : Type 0 where
  pub front : List Word
  pub word : Word
  pub after : List Word
  pub are : ws ≡ front ++ (word ∷ after)
  pub lacks : R front ≡ lack
  pub anyway : (vs : List Word) → R (front ++ (word ∷ vs)) ≡ bad

-- what holds of a reader holds of what is made of it
used_map : {O P : Type 0} (g : O → P) (R : List Word → O) (done : List Word → O) (ws left : List Word) → Used R done ws left → Used (λ vs. g (R vs)) (λ vs. g (done vs)) ws left
used_map g R done ws left h = record { front = h.front; are = h.are; anyhow = λ vs. ap g (h.anyhow vs) }

wrong_map : {O P : Type 0} (g : O → P) (R : List Word → O) (ws : List Word) (lack bad : O) → Wrong R ws lack bad → Wrong (λ vs. g (R vs)) ws (g lack) (g bad)
wrong_map g R ws lack bad h =
    record { front = h.front; word = h.word; after = h.after; are = h.are; lacks = ap g h.lacks; anyway = λ vs. ap g (h.anyway vs) }

-- a reader that goes on as another does
module _ {O : Type 0} (S F : List Word → O) (ws left : List Word) (used : Used S F ws left) where
  used_then : (done : List Word → O) (rest : List Word) → Used F done left rest → Used S done ws rest
  used_then done rest h =
      record {
        front = used.front ++ h.front;
        are = used.are ∙ ap (λ l. used.front ++ l) h.are ∙ sym (append_assoc used.front h.front rest);
        anyhow = λ vs. ap S (append_assoc used.front h.front vs) ∙ used.anyhow (h.front ++ vs) ∙ h.anyhow vs;
      }

  wrong_then : (lack bad : O) → Wrong F left lack bad → Wrong S ws lack bad
  wrong_then lack bad h =
      record {
        front = used.front ++ h.front;
        word = h.word;
        after = h.after;
        are = used.are ∙ ap (λ l. used.front ++ l) h.are ∙ sym (append_assoc used.front h.front (h.word ∷ h.after));
        lacks = used.anyhow h.front ∙ h.lacks;
        anyway = λ vs. ap S (append_assoc used.front h.front (h.word ∷ vs)) ∙ used.anyhow (h.front ++ (h.word ∷ vs)) ∙ h.anyway vs;
      }

ok_same : {X : Type 0} (p q : X) → ◌≡◌ {A = Result X Fault} (Ok p) (Ok q) → p ≡ q
ok_same p q e = cc

err_same : {X : Type 0} (e f : Fault) → ◌≡◌ {A = Result X Fault} (Err e) (Err f) → e ≡ f
err_same e f h = cc

ok_err : {X : Type 0} (p : X) (e : Fault) → ◌≡◌ {A = Result X Fault} (Ok p) (Err e) → ⊥
ok_err p e h = let z : ◌≡◌ {A = ℕ} 0 1 = cc in omega arith

-- a missing word is no wrong word
not_wrong : (b c : Blame) → missing_at b ≡ wrong_at c → ⊥
not_wrong b c h = let f : WrongLength ≡ WrongWord = ap (λ (e : Fault). e.flaw) h in let z : ◌≡◌ {A = ℕ} 0 1 = cc in omega arith

-- a reader of a value
record Reader {X : Type 0} (R : List Word → Read X) : Type 0 where
  pub reaches : (ws : List Word) (x : X) (left : List Word) → R ws ≡ Ok (x, left) → Used R (λ vs. Ok (x, vs)) ws left
  pub stops : (ws : List Word) (b : Blame) → R ws ≡ Err (wrong_at b) → Wrong R ws (Err (missing_at b)) (Err (wrong_at b))

-- what is read of a word that is worth this
abbrev judged : {X : Type 0} → Section → ℕ → Option X → List Word → Read X
judged s k o ws = ok_or (option_map (λ x. (x, ws)) o) (found WrongWord s k)

due_at_lem : {X : Type 0} (of : Word → Option X) (s : Section) (k : ℕ) (w : Word) (o : Option X) → of w ≡ o → (ws : List Word) → due of s k (w ∷ ws) ≡ judged s k o ws
unfolding due
due_at_lem {X} of s k w o e ws = ap (λ (p : Option X). judged s k p ws) e

-- one word
module _ {X : Type 0} (of : Word → Option X) (s : Section) (k : ℕ) where
  word_reaches : (w : Word) (ws : List Word) (x : X) (left : List Word) (o : Option X) → of w ≡ o → judged s k o ws ≡ Ok (x, left) → Used (due of s k) (λ vs. Ok (x, vs)) (w ∷ ws) left
  word_reaches w ws x left (Some y) e h =
      let same = ok_same (y, ws) (x, left) h in
      record { front = w ∷ []; are = ap (λ p. w ∷ p.1) same; anyhow = λ vs. due_at_lem of s k w (Some y) e vs ∙ ap (λ p. Ok (p.0, vs)) same }
  word_reaches w ws x left None e h = absurd (ok_err _ _ (sym h))

  word_stops : (w : Word) (ws : List Word) (b : Blame) (o : Option X) → of w ≡ o → judged s k o ws ≡ Err (wrong_at b) → Wrong (due of s k) (w ∷ ws) (Err (missing_at b)) (Err (wrong_at b))
  unfolding due
  word_stops w ws b (Some y) e h = absurd (ok_err _ _ h)
  word_stops w ws b None e h =
      let same = ap (λ (f : Fault). f.blame) (err_same _ _ h) in
      record { front = []; word = w; after = ws; are = refl; lacks = ap (λ (c : Blame). Err (missing_at c)) same; anyway = λ vs. due_at_lem of s k w None e vs ∙ h }

  due_reader : Reader (due of s k)
  unfolding due
  due_reader = record { reaches = reach; stops = stop }
    where
      reach : (ws : List Word) (x : X) (left : List Word) → due of s k ws ≡ Ok (x, left) → Used (due of s k) (λ vs. Ok (x, vs)) ws left
      reach [] x left h = absurd (ok_err _ _ (sym h))
      reach (w ∷ ws) x left h = word_reaches w ws x left (of w) refl h

      stop : (ws : List Word) (b : Blame) → due of s k ws ≡ Err (wrong_at b) → Wrong (due of s k) ws (Err (missing_at b)) (Err (wrong_at b))
      stop [] b h = absurd (not_wrong _ _ (err_same _ _ h))
      stop (w ∷ ws) b h = word_stops w ws b (of w) refl h

-- one reader, and then another
module _ {X Y : Type 0} (R : List Word → Read X) (go : X → List Word → Read Y) (r : Reader R) (g : (x : X) → Reader (go x)) where
  both : List Word → Read Y
  both ws = follow (R ws) go

  -- once R is done, the other reads on
  on : (ws : List Word) (x : X) (left : List Word) → R ws ≡ Ok (x, left) → Used both (go x) ws left
  unfolding both
  on ws x left e = used_map (λ (d : Read X). follow d go) R (λ vs. Ok (x, vs)) ws left (r.reaches ws x left e)

  follow_reader : Reader both
  unfolding both
  follow_reader = record { reaches = λ ws y left h. reach ws y left (R ws) refl h; stops = λ ws b h. stop ws b (R ws) refl h }
    where
      reach : (ws : List Word) (y : Y) (left : List Word) (d : Read X) → R ws ≡ d → follow d go ≡ Ok (y, left) → Used both (λ vs. Ok (y, vs)) ws left
      reach ws y left (Ok p) e h = used_then both (go p.0) ws p.1 (on ws p.0 p.1 e) (λ vs. Ok (y, vs)) left ((g p.0).reaches p.1 y left h)
      reach ws y left (Err f) e h = absurd (ok_err _ _ (sym h))

      stop : (ws : List Word) (b : Blame) (d : Read X) → R ws ≡ d → follow d go ≡ Err (wrong_at b) → Wrong both ws (Err (missing_at b)) (Err (wrong_at b))
      stop ws b (Ok p) e h = wrong_then both (go p.0) ws p.1 (on ws p.0 p.1 e) _ _ ((g p.0).stops p.1 b h)
      stop ws b (Err f) e h =
          wrong_map (λ (d : Read X). follow d go) R ws (Err (missing_at b)) (Err (wrong_at b)) (r.stops ws b (e ∙ ap Err (err_same _ _ h)))

-- nothing more is read
done_reader : {X : Type 0} (x : X) → Reader {X = X} (λ ws. Ok (x, ws))
done_reader {X} x =
    record {
      reaches = λ ws y left h. let same = ok_same (x, ws) (y, left) h in record { front = []; are = ap (λ p. p.1) same; anyhow = λ vs. ap (λ (p : X × List Word). Ok (p.0, vs)) same };
      stops = λ ws b h. absurd (ok_err _ _ h);
    }

headed_reader : {X : Type 0} (of : Word → Option X) (s : Section) → Reader (headed of s)
unfolding headed both
headed_reader of s = follow_reader (due (opens s) s 1) (λ _. due of s 2) (due_reader (opens s) s 1) (λ _. due_reader of s 2)

numbers_reader : (n : ℕ) (s : Section) (k : ℕ) → Reader (numbers n s k)
unfolding numbers both
numbers_reader zero s k = done_reader []
numbers_reader (suc n) s k =
    follow_reader (due number_of s (k + 1)) (λ z ws. follow (numbers n s (k + 1) ws) (λ zs left. Ok (z ∷ zs, left))) (due_reader number_of s (k + 1))
    (λ z. follow_reader (numbers n s (k + 1)) (λ zs left. Ok (z ∷ zs, left)) (numbers_reader n s (k + 1)) (λ zs. done_reader (z ∷ zs)))

row_reader : (f : Form) (s : Section) (k : ℕ) → Reader (row_due f s k)
unfolding row_due both
row_reader f s k =
    follow_reader (numbers f.width s k) (λ ns left. Ok (f.request ns, left)) (numbers_reader f.width s k) (λ ns. done_reader (f.request ns))

-- a stretch that goes on, whatever follows
abbrev Goes : (List Word → Stretch) → Type 0
Goes T = (ws left : List Word) → (T ws).ends ≡ Ok left → Used T (λ vs. record { entries = (T ws).entries; ends = Ok vs }) ws left

-- a stretch that is cut at a wrong word only
record Cuts (T : List Word → Stretch) : Type 0 where
  pub stops : (ws : List Word) (b : Blame) → (T ws).ends ≡ Err (wrong_at b) → Wrong T ws (record { entries = (T ws).entries; ends = Err (missing_at b) }) (T ws)
  pub begins : (ws vs : List Word) → Begins (T ws).entries (T (ws ++ vs)).entries

-- more words, after those in front
used_more : {O : Type 0} (S F : List Word → O) (ws left vs : List Word) → Used S F ws left → S (ws ++ vs) ≡ F (left ++ vs)
used_more S F ws left vs h = ap S (ap (λ l. l ++ vs) h.are ∙ append_assoc h.front left vs) ∙ h.anyhow (left ++ vs)

begins_after : (es fs gs : List Entry) → Begins fs gs → Begins (es ++ fs) (es ++ gs)
begins_after es fs gs h = (h.0, ap (λ l. es ++ l) h.1 ∙ sym (append_assoc es fs h.0))

-- a stretch that follows from what is read
module _ {X : Type 0} (R : List Word → Read X) (go : X → List Word → Stretch) (r : Reader R) where
  after : List Word → Stretch
  after ws = then (R ws) go

  on_after : (ws : List Word) (x : X) (left : List Word) → R ws ≡ Ok (x, left) → Used after (go x) ws left
  unfolding after then
  on_after ws x left e = used_map (λ (d : Read X). then d go) R (λ vs. Ok (x, vs)) ws left (r.reaches ws x left e)

  then_goes : ((x : X) → Goes (go x)) → Goes after
  unfolding after then
  then_goes g ws left h = by (R ws) refl h
    where
      by : (d : Read X) → R ws ≡ d → (then d go).ends ≡ Ok left → Used after (λ vs. record { entries = (then d go).entries; ends = Ok vs }) ws left
      by (Ok p) e h = used_then after (go p.0) ws p.1 (on_after ws p.0 p.1 e) _ left (g p.0 p.1 left h)
      by (Err f) e h = absurd (ok_err _ _ (sym h))

  then_cuts : ((x : X) → Cuts (go x)) → Cuts after
  unfolding after then
  then_cuts g = record { stops = λ ws b h. stop ws b (R ws) refl h; begins = λ ws vs. begin ws vs (R ws) refl }
    where
      stop : (ws : List Word) (b : Blame) (d : Read X) → R ws ≡ d → (then d go).ends ≡ Err (wrong_at b) → Wrong after ws (record { entries = (then d go).entries; ends = Err (missing_at b) }) (then d go)
      stop ws b (Ok p) e h = wrong_then after (go p.0) ws p.1 (on_after ws p.0 p.1 e) _ _ ((g p.0).stops p.1 b h)
      stop ws b (Err f) e h =
          let same = err_same _ _ h in
          subst (λ (v : Fault). Wrong after ws (still (Err (missing_at b))) (still (Err v))) (sym same)
          (wrong_map (λ (d : Read X). then d go) R ws (Err (missing_at b)) (Err (wrong_at b)) (r.stops ws b (e ∙ ap Err same)))

      begin : (ws vs : List Word) (d : Read X) → R ws ≡ d → Begins (then d go).entries (after (ws ++ vs)).entries
      begin ws vs (Ok p) e =
          subst (λ (t : Stretch). Begins (go p.0 p.1).entries t.entries) (sym (used_more after (go p.0) ws p.1 vs (on_after ws p.0 p.1 e))) ((g p.0).begins p.1 vs)
      begin ws vs (Err f) e = ((after (ws ++ vs)).entries, refl)

-- one stretch after another
module _ (T U : List Word → Stretch) (goes : Goes T) where
  two : List Word → Stretch
  two ws = onward (T ws) U

  on_two : (ws left : List Word) → (T ws).ends ≡ Ok left → Used two (λ vs. before (T ws).entries (U vs)) ws left
  unfolding two onward
  on_two ws left e = used_map (λ (t : Stretch). onward t U) T _ ws left (goes ws left e)

  onward_goes : Goes U → Goes two
  unfolding two onward
  onward_goes g ws left h = by (T ws).ends refl h
    where
      by : (d : Result (List Word) Fault) → (T ws).ends ≡ d → (resumed d U).ends ≡ Ok left → Used two (λ vs. record { entries = (T ws).entries ++ (resumed d U).entries; ends = Ok vs }) ws left
      by (Ok mid) e h = used_then two _ ws mid (on_two ws mid e) _ left (used_map (before (T ws).entries) U _ mid left (g mid left h))
      by (Err f) e h = absurd (ok_err _ _ (sym h))

  onward_cuts : Cuts T → Cuts U → Cuts two
  unfolding two onward
  onward_cuts c g = record { stops = λ ws b h. stop ws b (T ws).ends refl h; begins = λ ws vs. begin ws vs (T ws).ends refl }
    where
      stop : (ws : List Word) (b : Blame) (d : Result (List Word) Fault) → (T ws).ends ≡ d → (resumed d U).ends ≡ Err (wrong_at b) → Wrong two ws (record { entries = (T ws).entries ++ (resumed d U).entries; ends = Err (missing_at b) }) (before (T ws).entries (resumed d U))
      stop ws b (Ok mid) e h = wrong_then two _ ws mid (on_two ws mid e) _ _ (wrong_map (before (T ws).entries) U mid _ _ (g.stops mid b h))
      stop ws b (Err f) e h =
          subst (λ (v : Result (List Word) Fault). Wrong two ws (before (T ws).entries (still (Err (missing_at b)))) (before (T ws).entries (resumed v U))) e
          (wrong_map (λ (t : Stretch). onward t U) T ws _ _ (c.stops ws b (e ∙ h)))

      begin : (ws vs : List Word) (d : Result (List Word) Fault) → (T ws).ends ≡ d → Begins ((T ws).entries ++ (resumed d U).entries) (two (ws ++ vs)).entries
      begin ws vs (Ok mid) e =
          subst (λ (t : Stretch). Begins ((T ws).entries ++ (U mid).entries) t.entries) (sym (used_more two _ ws mid vs (on_two ws mid e))) (begins_after (T ws).entries _ _ (g.begins mid vs))
      begin ws vs (Err f) e =
          let first = c.begins ws vs in
          let more = (resumed (T (ws ++ vs)).ends U).entries in
          (first.0 ++ more, ap (λ l. l ++ more) first.1 ∙ append_assoc (T ws).entries first.0 more ∙ ap (λ l. l ++ (first.0 ++ more)) (sym (append-nil (T ws).entries)))

-- a request before a stretch
module _ (q : Request) (s : Section) (k : ℕ) (T : List Word → Stretch) where
  asked_goes : Goes T → Goes (λ ws. asked q s k (T ws))
  unfolding asked
  asked_goes g ws left h = used_map (asked q s k) T _ ws left (g ws left h)

  asked_cuts : Cuts T → Cuts (λ ws. asked q s k (T ws))
  unfolding asked
  asked_cuts c =
      record { stops = λ ws b h. wrong_map (asked q s k) T ws _ _ (c.stops ws b h); begins = λ ws vs. begins_after (_ ∷ []) _ _ (c.begins ws vs) }

-- nothing is read
still_goes : Goes (λ ws. still (Ok ws))
still_goes ws left h = record { front = []; are = ok_same _ _ h; anyhow = λ vs. refl }

still_cuts : Cuts (λ ws. still (Ok ws))
still_cuts = record { stops = λ ws b h. absurd (ok_err _ _ h); begins = λ ws vs. ([], refl) }

rows_goes : (f : Form) (n : ℕ) (s : Section) (k : ℕ) → Goes (rows f n s k)
unfolding rows after
rows_goes f zero s k = still_goes
rows_goes f (suc n) s k =
    then_goes (row_due f s k) (λ q left. asked q s (k + f.width) (rows f n s (k + f.width) left)) (row_reader f s k)
    (λ q. asked_goes q s (k + f.width) (rows f n s (k + f.width)) (rows_goes f n s (k + f.width)))

rows_cuts : (f : Form) (n : ℕ) (s : Section) (k : ℕ) → Cuts (rows f n s k)
unfolding rows after
rows_cuts f zero s k = still_cuts
rows_cuts f (suc n) s k =
    then_cuts (row_due f s k) (λ q left. asked q s (k + f.width) (rows f n s (k + f.width) left)) (row_reader f s k)
    (λ q. asked_cuts q s (k + f.width) (rows f n s (k + f.width)) (rows_cuts f n s (k + f.width)))

facets_goes : (s : Section) → Goes (facets_of s)
unfolding facets_of after
facets_goes s =
    then_goes (headed count_of s) (λ n ws. asked start s 2 (rows facet n s 2 ws)) (headed_reader count_of s) (λ n. asked_goes start s 2 (rows facet n s 2) (rows_goes facet n s 2))

facets_cuts : (s : Section) → Cuts (facets_of s)
unfolding facets_of after
facets_cuts s =
    then_cuts (headed count_of s) (λ n ws. asked start s 2 (rows facet n s 2 ws)) (headed_reader count_of s) (λ n. asked_cuts start s 2 (rows facet n s 2) (rows_cuts facet n s 2))

ties_goes : (s : Section) → Goes (ties_of s)
unfolding ties_of after two
ties_goes s =
    then_goes (headed count_of s) (λ n ws. onward (rows tie n s 2 ws) (λ ws. asked close s (2 + n * 2) (still (Ok ws)))) (headed_reader count_of s)
    (λ n. onward_goes (rows tie n s 2) (λ ws. asked close s (2 + n * 2) (still (Ok ws))) (rows_goes tie n s 2) (asked_goes close s (2 + n * 2) (λ ws. still (Ok ws)) still_goes))

ties_cuts : (s : Section) → Cuts (ties_of s)
unfolding ties_of after two
ties_cuts s =
    then_cuts (headed count_of s) (λ n ws. onward (rows tie n s 2 ws) (λ ws. asked close s (2 + n * 2) (still (Ok ws)))) (headed_reader count_of s)
    (λ n. onward_cuts (rows tie n s 2) (λ ws. asked close s (2 + n * 2) (still (Ok ws))) (rows_goes tie n s 2) (rows_cuts tie n s 2) (asked_cuts close s (2 + n * 2) (λ ws. still (Ok ws)) still_cuts))

-- words that are left over are no wrong words
finished_cuts : (s : Section) (k : ℕ) → Cuts (finished s k)
unfolding finished
finished_cuts s k = record { stops = stop; begins = λ ws vs. ([], silent (ws ++ vs) ∙ sym (silent ws) ∙ sym (append-nil _)) }
  where
    silent : (ws : List Word) → (finished s k ws).entries ≡ []
    silent [] = refl
    silent (w ∷ ws) = refl

    stop : (ws : List Word) (b : Blame) → (finished s k ws).ends ≡ Err (wrong_at b) → Wrong (finished s k) ws (record { entries = (finished s k ws).entries; ends = Err (missing_at b) }) (finished s k ws)
    stop [] b h = absurd (ok_err _ _ h)
    stop (w ∷ ws) b h = absurd (not_wrong _ _ (err_same _ _ h))

placements_cuts : Cuts placements_of
unfolding placements_of after two
placements_cuts =
    let s = section.Placements in
    then_cuts (headed count_of s) (λ n ws. onward (rows placement n s 2 ws) (finished s (2 + n * 12 + 1))) (headed_reader count_of s)
    (λ n. onward_cuts (rows placement n s 2) (finished s (2 + n * 12 + 1)) (rows_goes placement n s 2) (rows_cuts placement n s 2) (finished_cuts s (2 + n * 12 + 1)))

body_cuts : Cuts body_of
unfolding body_of two
body_cuts =
    section_cuts (facets_goes section.Facets) (facets_cuts section.Facets)
    (section_cuts (ties_goes section.Ties) (ties_cuts section.Ties)
    (section_cuts (facets_goes section.Facets2) (facets_cuts section.Facets2) (section_cuts (ties_goes section.Ties2) (ties_cuts section.Ties2) placements_cuts)))
  where
    section_cuts : {T U : List Word → Stretch} → Goes T → Cuts T → Cuts U → Cuts (λ ws. onward (T ws) U)
    section_cuts {T} {U} g c rest = onward_cuts T U g c rest

-- the reading after the kind
abbrev opened : Kind → Stretch → Reading
opened k t = record { kind = Some k; entries = t.entries; fault = result_err t.ends }

on_body : (ws : List Word) (k : Kind) (left : List Word) → headed kind_of section.Kind ws ≡ Ok (k, left) → Used reading_of (λ vs. opened k (body_of vs)) ws left
unfolding reading_of
on_body ws k left e = used_map begun (headed kind_of section.Kind) _ ws left ((headed_reader kind_of section.Kind).reaches ws k left e)

-- a fault is the end of a stretch
fault_ends : (r : Result (List Word) Fault) (e : Fault) → result_err r ≡ Some e → r ≡ Err e
fault_ends (Ok ws) e h = let z : ◌≡◌ {A = ℕ} 0 1 = cc in absurd (omega arith)
fault_ends (Err f) e h = ap Err (cc)

-- a reading that ends at a wrong word is cut there
pub cut_at : (ws : List Word) (b : Blame) → (reading_of ws).fault ≡ Some (wrong_at b) → CutAt b ws
unfolding reading_of
cut_at ws b h = stated (by (headed kind_of section.Kind ws) refl h)
  where
    by : (d : Read Kind) → headed kind_of section.Kind ws ≡ d → (begun d).fault ≡ Some (wrong_at b) → Wrong reading_of ws (lacking (begun d) b) (begun d)
    by (Ok p) e h =
        wrong_then reading_of _ ws p.1 (on_body ws p.0 p.1 e) _ _
        (wrong_map (opened p.0) body_of p.1 _ _ (body_cuts.stops p.1 b (fault_ends (body_of p.1).ends (wrong_at b) h)))
    by (Err f) e h =
        let same : f ≡ wrong_at b = cc in
        subst (λ (v : Fault). Wrong reading_of ws (lacking (begun (Err v)) b) (begun (Err v))) (sym same)
        (wrong_map begun (headed kind_of section.Kind) ws _ _ ((headed_reader kind_of section.Kind).stops ws b (e ∙ ap Err same)))

    stated : Wrong reading_of ws (lacking (reading_of ws) b) (reading_of ws) → CutAt b ws
    stated w = record { front = w.front; wrong = w.word; after = w.after; are = w.are; lacks = w.lacks; anyway = w.anyway }

-- a longer job begins with the same requests
pub begins_so : (ws vs : List Word) → Begins (reading_of ws).entries (reading_of (ws ++ vs)).entries
unfolding reading_of
begins_so ws vs = by (headed kind_of section.Kind ws) refl
  where
    by : (d : Read Kind) → headed kind_of section.Kind ws ≡ d → Begins (begun d).entries (reading_of (ws ++ vs)).entries
    by (Ok p) e =
        subst (λ (t : Reading). Begins (body_of p.1).entries t.entries) (sym (used_more reading_of _ ws p.1 vs (on_body ws p.0 p.1 e))) (body_cuts.begins p.1 vs)
    by (Err f) e = ((reading_of (ws ++ vs)).entries, refl)
