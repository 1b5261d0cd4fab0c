-- The words of the sections.
use Rattle.std.specs.Prelude.{cond, Some, None, codes, Option}
use Rattle.std.specs.Str.{bytes_eq}
use Rattle.jobtext.specs.declared.kind.Kind.{Kind}
use Rattle.jobtext.specs.declared.kind.Kind.TheVariants as kind
use Rattle.jobtext.specs.declared.section.Section.{Section}
use Rattle.jobtext.specs.declared.section.Section.TheVariants.{Kind as KindSection, Facets, Ties, Facets2, Ties2, Placements}
use Rattle.jobtext.specs.Words.{Word}

-- the word that opens a section of a job
abbrev pub opening : Section → Word
opening KindSection = codes "kind"
opening Facets = codes "facets"
opening Ties = codes "ties"
opening Facets2 = codes "facets"
opening Ties2 = codes "ties"
opening Placements = codes "placements"

-- the name of a section in a report
abbrev pub name : Section → Word
name KindSection = codes "kind"
name Facets = codes "facets"
name Ties = codes "ties"
name Facets2 = codes "facets2"
name Ties2 = codes "ties2"
name Placements = codes "placements"

-- the word for a kind
abbrev pub word_of_kind : Kind → Word
word_of_kind kind.Box = codes "box"
word_of_kind kind.Many = codes "many"
word_of_kind kind.Ball = codes "ball"

-- does the word open the section?
unfoldable pub opens : Section → Word → Option (Unit {0})
opens s w = cond (bytes_eq w (opening s)) (Some tt) None

-- the kind that a word names
unfoldable pub kind_of : Word → Option Kind
kind_of w =
    cond (bytes_eq w (word_of_kind kind.Box)) (Some kind.Box) (cond (bytes_eq w (word_of_kind kind.Many)) (Some kind.Many) (cond (bytes_eq w (word_of_kind kind.Ball)) (Some kind.Ball) None))
