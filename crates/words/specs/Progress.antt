-- How far the reading of a job has come.
use Rattle.std.specs.Prelude.{ℕ, List}
use Rattle.jobtext.specs.declared.section.Section.{Section}
use Rattle.jobtext.specs.declared.section.Section.TheVariants.{Kind}
use Rattle.jobtext.specs.Words.{Word, words}

-- the section that is read, how many of its words are taken, and the words that are left of the job
pub record Progress : Type 0 where
  pub section : Section
  pub taken : ℕ
  pub left : List Word

-- no word of the job is taken
abbrev pub untaken : List ℕ → Progress
untaken bytes = record { section = Kind; taken = 0; left = words bytes }
