-- How the words of a job are read.
use Rattle.std.specs.Prelude.{◌≡◌, ℕ, zero, suc, ◌+◌, ◌*◌, cond, List, [], ◌∷◌, ◌++◌, map, length, ℤ, Some, None, Ok, Err, Option, Result, nat_le}
use Rattle.std.specs.Option.{option_map, ok_or}
use Rattle.std.specs.Result.{result_err}
use Rattle.book.specs.declared.call.Request.{Request}
use Rattle.jobtext.specs.declared.entry.Entry.{Entry}
use Rattle.jobtext.specs.declared.fault.Blame.{Blame}
use Rattle.jobtext.specs.declared.fault.Fault.{Fault}
use Rattle.jobtext.specs.declared.fault.Flaw.{Flaw}
use Rattle.jobtext.specs.declared.fault.Flaw.TheVariants.{WrongWord, WrongLength}
use Rattle.jobtext.specs.declared.kind.Kind.{Kind}
use Rattle.jobtext.specs.declared.section.Section.{Section}
use Rattle.jobtext.specs.declared.section.Section.TheVariants as section
use Rattle.jobtext.specs.Forms.{Form, facet, tie, placement, start, close}
use Rattle.jobtext.specs.Numbers.{count_of, number_of}
use Rattle.jobtext.specs.Sections.{opens, kind_of}
use Rattle.jobtext.specs.Words.{Word, words, job_limit}

-- the flaw is found at word k of the section
abbrev pub found : Flaw → Section → ℕ → Fault
found f s k = record { flaw = f; blame = record { section = s; word = k } }

-- what is read and the words left, or the fault
abbrev pub Read : Type 0 → Type 0
Read X = Result (X × List Word) Fault

-- the answer is what is read, and these words are left; or it is the fault
abbrev pub Reads : {X : Type 0} → Read X → Result X Fault → List Word → Type 0
Reads d (Ok x) left = d ≡ Ok (x, left)
Reads d (Err e) left = d ≡ Err e

-- word k of the section is due, and `of` tells what it is worth
unfoldable pub due : {X : Type 0} → (Word → Option X) → Section → ℕ → List Word → Read X
due of s k [] = Err (found WrongLength s k)
due of s k (w ∷ ws) = ok_or (option_map (λ x. (x, ws)) (of w)) (found WrongWord s k)

-- first the one is read, then the other
abbrev pub follow : {X Y : Type 0} → Read X → (X → List Word → Read Y) → Read Y
follow (Ok p) go = go p.0 p.1
follow (Err e) go = Err e

-- the name of a section is due, and then word 2
unfoldable pub headed : {X : Type 0} → (Word → Option X) → Section → List Word → Read X
headed of s ws = follow (due (opens s) s 1 ws) (λ _ left. due of s 2 left)

-- n numbers are due after word k
unfoldable pub numbers : ℕ → Section → ℕ → List Word → Read (List ℤ)
numbers zero s k ws = Ok ([], ws)
numbers (suc n) s k ws =
    follow (due number_of s (k + 1) ws) (λ z left. follow (numbers n s (k + 1) left) (λ zs left. Ok (z ∷ zs, left)))

-- the requests
abbrev pub requests_of : List Entry → List Request
requests_of es = map (λ e. e.request) es

-- the words that are blamed for them
abbrev pub blames_of : List Entry → List Blame
blames_of es = map (λ e. e.blame) es

-- a stretch of a reading: the requests that it makes, then the words left or the fault that ends it
pub record Stretch : Type 0 where
  pub entries : List Entry
  pub ends : Result (List Word) Fault

-- nothing is asked for
abbrev pub still : Result (List Word) Fault → Stretch
still e = record { entries = []; ends = e }

-- these requests come before the stretch
abbrev pub before : List Entry → Stretch → Stretch
before es t = record { entries = es ++ t.entries; ends = t.ends }

-- the request is made at word k of the section, before the stretch
unfoldable pub asked : Request → Section → ℕ → Stretch → Stretch
asked q s k t = before (record { request = q; blame = record { section = s; word = k } } ∷ []) t

-- the stretch that follows from what is read
unfoldable pub then : {X : Type 0} → Read X → (X → List Word → Stretch) → Stretch
then (Ok p) go = go p.0 p.1
then (Err e) go = still (Err e)

-- the stretch that follows where no fault ended the one before
abbrev pub resumed : Result (List Word) Fault → (List Word → Stretch) → Stretch
resumed (Ok ws) go = go ws
resumed (Err e) go = still (Err e)

-- one stretch after another
unfoldable pub onward : Stretch → (List Word → Stretch) → Stretch
onward t go = before t.entries (resumed t.ends go)

-- a row is due after word k, and makes a request
unfoldable pub row_due : Form → Section → ℕ → List Word → Read Request
row_due f s k ws = follow (numbers f.width s k ws) (λ ns left. Ok (f.request ns, left))

-- n rows are due after word k, and each makes a request at its last word
unfoldable pub rows : Form → ℕ → Section → ℕ → List Word → Stretch
rows f zero s k ws = still (Ok ws)
rows f (suc n) s k ws =
    then (row_due f s k ws) (λ q left. asked q s (k + f.width) (rows f n s (k + f.width) left))

-- a section of facets: an object is started, and its facets are entered
unfoldable pub facets_of : Section → List Word → Stretch
facets_of s ws = then (headed count_of s ws) (λ n ws. asked start s 2 (rows facet n s 2 ws))

-- a section of ties: they are entered, and the object is closed at the last word
unfoldable pub ties_of : Section → List Word → Stretch
ties_of s ws = then (headed count_of s ws) (λ n ws. onward (rows tie n s 2 ws) (λ ws. asked close s (2 + n * 2) (still (Ok ws))))

-- no word is due any more, and the next would be word k of the section
unfoldable pub finished : Section → ℕ → List Word → Stretch
finished s k [] = still (Ok [])
finished s k (w ∷ ws) = still (Err (found WrongLength s k))

-- the section of placements, the last of a job
unfoldable pub placements_of : List Word → Stretch
placements_of ws =
    let s = section.Placements in then (headed count_of s ws) (λ n ws. onward (rows placement n s 2 ws) (finished s (2 + n * 12 + 1)))

-- the sections after the kind
unfoldable pub body_of : List Word → Stretch
body_of ws =
    onward (facets_of section.Facets ws) (λ ws. onward (ties_of section.Ties ws) (λ ws. onward (facets_of section.Facets2 ws) (λ ws. onward (ties_of section.Ties2 ws) placements_of)))

-- what a job asks for, and the fault that ends its reading
pub record Reading : Type 0 where
  pub kind : Option Kind
  pub entries : List Entry
  pub fault : Option Fault

-- nothing is read but the fault
abbrev pub stopped : Fault → Reading
stopped e = record { kind = None; entries = []; fault = Some e }

-- the kind, and then the body
abbrev pub begun : Read Kind → Reading
begun (Ok p) = let t = body_of p.1 in record { kind = Some p.0; entries = t.entries; fault = result_err t.ends }
begun (Err e) = stopped e

-- the reading of the words of a job
unfoldable pub reading_of : List Word → Reading
reading_of ws = begun (headed kind_of section.Kind ws)

-- the reading of a job: of one with too many bytes no word is looked at
unfoldable pub script_of : List ℕ → Reading
script_of bytes = cond (nat_le (length bytes) job_limit) (reading_of (words bytes)) (stopped (found WrongLength section.Kind 0))
