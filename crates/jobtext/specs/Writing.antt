-- A job as it is written down.
use Rattle.std.specs.Prelude.{◌≡◌, ℕ, ◌^◌, ◌<◌, List, [], ◌∷◌, ◌++◌, map, length, ℤ, decimal, unsigned_abs}
use Rattle.std.specs.List.{flat_map, AllByRecursion}
use Rattle.std.specs.Fmt.{signed_decimal}
use Rattle.jobtext.specs.declared.section.Section.{Section}
use Rattle.jobtext.specs.declared.section.Section.TheVariants as section
use Rattle.jobtext.specs.Forms.{Form, facet, tie, placement}
use Rattle.jobtext.specs.Jobs.{Job}
use Rattle.jobtext.specs.Sections.{opening, word_of_kind}
use Rattle.jobtext.specs.Words.{Word}

-- the words of a section, with decimal numbers
abbrev pub section_words : Section → List (List ℤ) → List Word
section_words s rs = opening s ∷ decimal (length rs) ∷ flat_map (map signed_decimal) rs

-- the words of a job
abbrev pub job_words : Job → List Word
job_words j =
    opening section.Kind ∷ word_of_kind j.kind ∷ (section_words section.Facets j.moved.facets ++ (section_words section.Ties j.moved.ties ++ (section_words section.Facets2 j.standing.facets ++ (section_words section.Ties2 j.standing.ties ++ section_words section.Placements j.placements))))

-- a space after each word
abbrev pub spaced : List Word → List ℕ
spaced [] = []
spaced (w ∷ ws) = w ++ (32 ∷ spaced ws)

-- the bytes of a job
unfoldable pub written : Job → List ℕ
written j = spaced (job_words j)

-- each row has as many numbers as its form asks for, and no number has more than ten digits
pub record Writable (f : Form) (rs : List (List ℤ)) : Type 0 where
  pub few : length rs < 10 ^ 10
  pub wide : AllByRecursion (λ r. length r ≡ f.width) rs
  pub small : AllByRecursion (λ r. AllByRecursion (λ z. unsigned_abs z < 10 ^ 10) r) rs

-- a job that can be written
pub record Complete (j : Job) : Type 0 where
  pub facets : Writable facet j.moved.facets
  pub ties : Writable tie j.moved.ties
  pub facets2 : Writable facet j.standing.facets
  pub ties2 : Writable tie j.standing.ties
  pub placements : Writable placement j.placements
