-- A job that is spelled is read as it is meant.
use Rattle.std.proofs.Common.{◌≡◌, ℕ, suc, ◌+◌, ◌*◌, List, [], ◌∷◌, ◌++◌, map, length, ℤ, Some, None, Ok, Option, sym, refl, ap, ◌∙◌, subst, append_assoc, append-nil, add-mul, arith}
use Rattle.std.specs.List.{flat_map}
use Rattle.std.specs.Result.{result_err}
use Rattle.std.proofs.lemmas.Slice.Eq.{bytes_eq-Decides}
use Rattle.std.proofs.lemmas.List.{map-append}
use Rattle.book.specs.declared.call.Request.{Request}
use Rattle.jobtext.specs.declared.kind.Kind.{Kind}
use Rattle.jobtext.specs.declared.kind.Kind.TheVariants as kind
use Rattle.jobtext.specs.declared.section.Section.{Section}
use Rattle.jobtext.specs.declared.section.Section.TheVariants as section
use Rattle.jobtext.specs.Forms.{Form, facet, tie, placement, start, close}
use Rattle.jobtext.specs.Jobs.{Object, Job, Says, SaysRows, Table, Spells, asks, object_asks, row_blames, object_blames, blames, Meant}
use Rattle.jobtext.specs.Numbers.{count_of, number_of}
use Rattle.jobtext.specs.declared.entry.Entry.{Entry}
use Rattle.jobtext.specs.Readings.{Read, Stretch, Reading, requests_of, blames_of, due, follow, headed, numbers, before, asked, then, onward, rows, facets_of, ties_of, placements_of, finished, body_of, begun, reading_of}
use Rattle.jobtext.specs.Sections.{opens, opening, kind_of, word_of_kind}
use Rattle.jobtext.specs.Words.{Word}
use Rattle.jobtext.proofs.Rows.{asked_at, row_read}

-- a word that is right
due_right : {X : Type 0} (of : Word → Option X) (s : Section) (k : ℕ) (w : Word) (ws : List Word) (x : X) → of w ≡ Some x → due of s k (w ∷ ws) ≡ Ok (x, ws)
unfolding due
due_right of s k w ws x e = rw e refl

-- numbers that are said
numbers_said : (zs : List ℤ) (ws : List Word) (s : Section) (k : ℕ) (left : List Word) → Says ws zs → numbers (length zs) s k (ws ++ left) ≡ Ok (zs, left)
unfolding numbers
numbers_said [] [] s k left h = refl
numbers_said [] (w ∷ ws) s k left h = absurd h
numbers_said (z ∷ zs) [] s k left h = absurd h
numbers_said (z ∷ zs) (w ∷ ws) s k left h =
    rw (due_right number_of s (k + 1) w (ws ++ left) z h.0, numbers_said zs ws s (k + 1) left h.1) refl

-- the entries of rows after word k
abbrev pub row_entries : Form → Section → ℕ → List (List ℤ) → List Entry
row_entries f s k [] = []
row_entries f s k (r ∷ rs) = asked_at s (k + f.width) (f.request r) ∷ row_entries f s (k + f.width) rs

-- rows that are said
rows_said : (f : Form) (rs : List (List ℤ)) (wss : List (List Word)) (s : Section) (k : ℕ) (left : List Word) → SaysRows f.width wss rs → rows f (length rs) s k (flat_map (λ row. row) wss ++ left) ≡ record { entries = row_entries f s k rs; ends = Ok left }
unfolding rows then asked
rows_said f [] [] s k left h = refl
rows_said f [] (ws ∷ wss) s k left h = absurd h
rows_said f (r ∷ rs) [] s k left h = absurd h
rows_said f (r ∷ rs) (ws ∷ wss) s k left h =
    let rest = flat_map (λ row. row) wss ++ left in
    let said : numbers f.width s k (ws ++ rest) ≡ Ok (r, rest) = subst (λ n. numbers n s k (ws ++ rest) ≡ Ok (r, rest)) h.0 (numbers_said r ws s k rest h.1) in
    ap (λ (l : List Word). rows f (suc (length rs)) s k l) (append_assoc ws (flat_map (λ row. row) wss) left)
    ∙ ap (λ (d : Read Request). then d (λ q left. asked q s (k + f.width) (rows f (length rs) s (k + f.width) left))) (row_read f s k (ws ++ rest) r rest said)
    ∙ ap (asked (f.request r) s (k + f.width)) (rows_said f rs wss s (k + f.width) left h.2)

-- the name of a section
name_right : (s : Section) → opens s (opening s) ≡ Some tt
unfolding opens
name_right s = rw ((bytes_eq-Decides (opening s) (opening s)).1 refl) refl

-- the word of a kind
kind_right : (k : Kind) → kind_of (word_of_kind k) ≡ Some k
unfolding kind_of
kind_right kind.Box = refl
kind_right kind.Many = refl
kind_right kind.Ball = refl

-- a name and the word after it
headed_right : {X : Type 0} (of : Word → Option X) (s : Section) (w : Word) (ws : List Word) (x : X) → of w ≡ Some x → headed of s (opening s ∷ w ∷ ws) ≡ Ok (x, ws)
unfolding headed
headed_right of s w ws x e =
    ap (λ (d : Read (Unit {0})). follow d (λ _ left. due of s 2 left)) (due_right (opens s) s 1 (opening s) (w ∷ ws) tt (name_right s)) ∙ due_right of s 2 w ws x e

-- what follows from a name and a count
table_read : (f : Form) (s : Section) (rs : List (List ℤ)) (ws left : List Word) (go : ℕ → List Word → Stretch) (t : Table f s rs ws) → then (headed count_of s (ws ++ left)) go ≡ go (length rs) (flat_map (λ row. row) t.cells ++ left)
unfolding then
table_read f s rs ws left go t =
    ap (λ (l : List Word). then (headed count_of s (l ++ left)) go) t.are ∙ ap (λ (d : Read ℕ). then d go) (headed_right count_of s t.count (flat_map (λ row. row) t.cells ++ left) (length rs) t.counts)

onward_read : (t : Stretch) (es : List Entry) (ws : List Word) (go : List Word → Stretch) → t ≡ record { entries = es; ends = Ok ws } → onward t go ≡ before es (go ws)
unfolding onward
onward_read t es ws go e = ap (λ (u : Stretch). onward u go) e

-- the entries of a section
abbrev facet_entries : Section → List (List ℤ) → List Entry
facet_entries s rs = asked_at s 2 start ∷ row_entries facet s 2 rs

abbrev tie_entries : Section → List (List ℤ) → List Entry
tie_entries s rs = row_entries tie s 2 rs ++ (asked_at s (2 + length rs * 2) close ∷ [])

facets_read : (s : Section) (rs : List (List ℤ)) (ws left : List Word) → Table facet s rs ws → facets_of s (ws ++ left) ≡ record { entries = facet_entries s rs; ends = Ok left }
unfolding facets_of asked
facets_read s rs ws left t =
    table_read facet s rs ws left _ t ∙ ap (asked start s 2) (rows_said facet rs t.cells s 2 left t.says)

ties_read : (s : Section) (rs : List (List ℤ)) (ws left : List Word) → Table tie s rs ws → ties_of s (ws ++ left) ≡ record { entries = tie_entries s rs; ends = Ok left }
unfolding ties_of asked
ties_read s rs ws left t =
    table_read tie s rs ws left _ t ∙ onward_read _ _ _ _ (rows_said tie rs t.cells s 2 left t.says)

placements_read : (rs : List (List ℤ)) (ws : List Word) → Table placement section.Placements rs ws → placements_of ws ≡ record { entries = row_entries placement section.Placements 2 rs; ends = Ok [] }
unfolding placements_of finished
placements_read rs ws t =
    ap placements_of (sym (append-nil ws)) ∙ table_read placement section.Placements rs ws [] _ t ∙ onward_read _ _ _ _ (rows_said placement rs t.cells section.Placements 2 [] t.says)
    ∙ ap (λ (es : List Entry). record { entries = es; ends = Ok [] }) (append-nil _)

-- what rows ask for
rows_ask : (f : Form) (s : Section) (k : ℕ) (rs : List (List ℤ)) → requests_of (row_entries f s k rs) ≡ map f.request rs
rows_ask f s k [] = refl
rows_ask f s k (r ∷ rs) = ap (λ (l : List Request). f.request r ∷ l) (rows_ask f s (k + f.width) rs)

-- the words that are blamed for rows
rows_blame : (f : Form) (s : Section) (k i : ℕ) (rs : List (List ℤ)) → k ≡ 2 + i * f.width → blames_of (row_entries f s k rs) ≡ row_blames f s i rs
rows_blame f s k i [] e = refl
rows_blame f s k i (r ∷ rs) e =
    let here : k + f.width ≡ 2 + (i + 1) * f.width = omega (arith, add-mul i 1 f.width) in
    λ j. record { section = s; word = here j } ∷ rows_blame f s (k + f.width) (i + 1) rs here j

-- the entries of an object
abbrev object_entries : Section → Section → Object → List Entry
object_entries s t o = facet_entries s o.facets ++ tie_entries t o.ties

abbrev entries_of : Job → List Entry
entries_of j =
    object_entries section.Facets section.Ties j.moved ++ (object_entries section.Facets2 section.Ties2 j.standing ++ row_entries placement section.Placements 2 j.placements)

parts : {X : Type 0} (f : Entry → X) (s t : Section) (o : Object) → map f (object_entries s t o) ≡ f (asked_at s 2 start) ∷ (map f (row_entries facet s 2 o.facets) ++ (map f (row_entries tie t 2 o.ties) ++ (f (asked_at t (2 + length o.ties * 2) close) ∷ [])))
parts f s t o = simp map-append

object_asks_lem : (s t : Section) (o : Object) → requests_of (object_entries s t o) ≡ object_asks o
object_asks_lem s t o =
    parts (λ e. e.request) s t o ∙ (λ i. start ∷ (rows_ask facet s 2 o.facets i ++ (rows_ask tie t 2 o.ties i ++ (close ∷ []))))

object_blames_lem : (s t : Section) (o : Object) → blames_of (object_entries s t o) ≡ object_blames s t o
object_blames_lem s t o =
    parts (λ e. e.blame) s t o
    ∙ (λ i. record { section = s; word = 2 } ∷ (rows_blame facet s 2 0 o.facets refl i ++ (rows_blame tie t 2 0 o.ties refl i ++ (record { section = t; word = 2 + length o.ties * 2 } ∷ []))))

entries_ask : (j : Job) → requests_of (entries_of j) ≡ asks j
entries_ask j =
    simp map-append (λ i. object_asks_lem section.Facets section.Ties j.moved i ++ (object_asks_lem section.Facets2 section.Ties2 j.standing i ++ rows_ask placement section.Placements 2 j.placements i))

entries_blame : (j : Job) → blames_of (entries_of j) ≡ blames j
entries_blame j =
    simp map-append (λ i. object_blames_lem section.Facets section.Ties j.moved i ++ (object_blames_lem section.Facets2 section.Ties2 j.standing i ++ rows_blame placement section.Placements 2 0 j.placements refl i))

-- one stretch after another
onward_both : (t : Stretch) (go : List Word → Stretch) (es fs : List Entry) (ws left : List Word) → t ≡ record { entries = es; ends = Ok ws } → go ws ≡ record { entries = fs; ends = Ok left } → onward t go ≡ record { entries = es ++ fs; ends = Ok left }
onward_both t go es fs ws left e f = onward_read t es ws go e ∙ ap (before es) f

-- the sections after the kind
body_read : (j : Job) (ws : List Word) (h : Spells j ws) → body_of (h.facets ++ (h.ties ++ (h.facets2 ++ (h.ties2 ++ h.placements)))) ≡ record { entries = entries_of j; ends = Ok [] }
unfolding body_of
body_read j ws h =
    onward_both _ _ _ _ _ _ (facets_read section.Facets _ _ _ h.in_facets)
    (onward_both _ _ _ _ _ _ (ties_read section.Ties _ _ _ h.in_ties)
    (onward_both _ _ _ _ _ _ (facets_read section.Facets2 _ _ _ h.in_facets2)
    (onward_both _ _ _ _ _ _ (ties_read section.Ties2 _ _ _ h.in_ties2) (placements_read _ _ h.in_placements))))
    ∙ ap (λ (es : List Entry). record { entries = es; ends = Ok [] }) (grouped (facet_entries section.Facets j.moved.facets) (tie_entries section.Ties j.moved.ties) (facet_entries section.Facets2 j.standing.facets) (tie_entries section.Ties2 j.standing.ties) _)
  where
    grouped : (a b c d e : List Entry) → a ++ (b ++ (c ++ (d ++ e))) ≡ (a ++ b) ++ ((c ++ d) ++ e)
    grouped a b c d e = simp append_assoc

-- a job that is spelled is read as it is meant
pub spelled_read : (j : Job) (ws : List Word) → Spells j ws → Meant j (reading_of ws)
unfolding reading_of
spelled_read j ws h =
    let told : reading_of ws ≡ record { kind = Some j.kind; entries = entries_of j; fault = None } =
    ap (λ (l : List Word). begun (headed kind_of section.Kind l)) h.are
    ∙ ap begun (headed_right kind_of section.Kind (word_of_kind j.kind) _ j.kind (kind_right j.kind))
    ∙ ap (λ (t : Stretch). record { kind = Some j.kind; entries = t.entries; fault = result_err t.ends }) (body_read j ws h) in
    subst (λ (t : Reading). Meant j t) (sym told) (record { kind = refl; requests = entries_ask j; blamed = entries_blame j; fault = refl })
