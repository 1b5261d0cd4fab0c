-- A job as it is meant, the words that spell it, and what it asks for.
use Rattle.std.specs.Prelude.{◌≡◌, ℕ, ◌+◌, ◌*◌, List, [], ◌∷◌, ◌++◌, map, length, ℤ, Some, None}
use Rattle.std.specs.List.{flat_map}
use Rattle.book.specs.declared.call.Request.{Request}
use Rattle.jobtext.specs.declared.fault.Blame.{Blame}
use Rattle.jobtext.specs.declared.kind.Kind.{Kind}
use Rattle.jobtext.specs.declared.section.Section.{Section}
use Rattle.jobtext.specs.declared.section.Section.TheVariants as section
use Rattle.jobtext.specs.Forms.{Form, facet, tie, placement, start, close}
use Rattle.jobtext.specs.Numbers.{count_of, number_of}
use Rattle.jobtext.specs.Readings.{Reading, requests_of, blames_of}
use Rattle.jobtext.specs.Sections.{opening, word_of_kind}
use Rattle.jobtext.specs.Words.{Word}

-- the numbers of the facets and of the ties
pub record Object : Type 0 where
  pub facets : List (List ℤ)
  pub ties : List (List ℤ)

pub record Job : Type 0 where
  pub kind : Kind
  pub moved : Object
  pub standing : Object
  pub placements : List (List ℤ)

-- the words are these numbers, one for one
abbrev pub Says : List Word → List ℤ → Type 0
Says [] [] = Unit {0}
Says [] (z ∷ zs) = ⊥
Says (w ∷ ws) [] = ⊥
Says (w ∷ ws) (z ∷ zs) = (number_of w ≡ Some z) × Says ws zs

-- each list of words is a row of n numbers
abbrev pub SaysRows : ℕ → List (List Word) → List (List ℤ) → Type 0
SaysRows n [] [] = Unit {0}
SaysRows n [] (r ∷ rs) = ⊥
SaysRows n (ws ∷ wss) [] = ⊥
SaysRows n (ws ∷ wss) (r ∷ rs) = (length r ≡ n) × Says ws r × SaysRows n wss rs

-- the words of a section: its name, its count and its rows
pub record Table (f : Form) (s : Section) (rs : List (List ℤ)) (ws : List Word) : Type 0 where
  pub count : Word
  pub cells : List (List Word)
  pub counts : count_of count ≡ Some (length rs)
  pub says : SaysRows f.width cells rs
  pub are : ws ≡ opening s ∷ count ∷ flat_map (λ row. row) cells

-- the words of a job
pub record Spells (j : Job) (ws : List Word) : Type 0 where
  pub facets : List Word
  pub ties : List Word
  pub facets2 : List Word
  pub ties2 : List Word
  pub placements : List Word
  pub in_facets : Table facet section.Facets j.moved.facets facets
  pub in_ties : Table tie section.Ties j.moved.ties ties
  pub in_facets2 : Table facet section.Facets2 j.standing.facets facets2
  pub in_ties2 : Table tie section.Ties2 j.standing.ties ties2
  pub in_placements : Table placement section.Placements j.placements placements
  pub are : ws ≡ opening section.Kind ∷ word_of_kind j.kind ∷ (facets ++ (ties ++ (facets2 ++ (ties2 ++ placements))))

-- an object is started, its facets and ties are entered, and it is closed
abbrev pub object_asks : Object → List Request
object_asks o = start ∷ (map facet.request o.facets ++ (map tie.request o.ties ++ (close ∷ [])))

-- the requests of a job: its two objects, then each placement
abbrev pub asks : Job → List Request
asks j = object_asks j.moved ++ (object_asks j.standing ++ map placement.request j.placements)

-- the last words of the rows from number i on
abbrev pub row_blames : Form → Section → ℕ → List (List ℤ) → List Blame
row_blames f s i [] = []
row_blames f s i (r ∷ rs) = record { section = s; word = 2 + (i + 1) * f.width } ∷ row_blames f s (i + 1) rs

-- an object is started at its count, its rows end at their last words, and it is closed at the last of all
abbrev pub object_blames : Section → Section → Object → List Blame
object_blames s t o =
    record { section = s; word = 2 } ∷ (row_blames facet s 0 o.facets ++ (row_blames tie t 0 o.ties ++ (record { section = t; word = 2 + length o.ties * 2 } ∷ [])))

-- the words that are blamed if a request of the job is refused
abbrev pub blames : Job → List Blame
blames j =
    object_blames section.Facets section.Ties j.moved ++ (object_blames section.Facets2 section.Ties2 j.standing ++ row_blames placement section.Placements 0 j.placements)

-- the reading is what is meant, and has no fault
pub record Meant (j : Job) (t : Reading) : Type 0 where
  pub kind : t.kind ≡ Some j.kind
  pub requests : requests_of t.entries ≡ asks j
  pub blamed : blames_of t.entries ≡ blames j
  pub fault : t.fault ≡ None
