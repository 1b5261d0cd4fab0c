-- A script, held to the reading of a job and to what the job means.
use Rattle.std.specs.Prelude.{◌≡◌, ℕ, List, ◌++◌, Some, None, vec_items}
use Rattle.book.specs.declared.call.Request.{Request}
use Rattle.jobtext.specs.declared.fault.Blame.{Blame}
use Rattle.jobtext.specs.Fronts.{wrong_at, CutAt}
use Rattle.jobtext.specs.Jobs.{Job, Spells, asks, blames}
use Rattle.jobtext.specs.Readings.{Reading, requests_of, blames_of, reading_of}
use Rattle.jobtext.specs.Words.{Word, words}
use Rattle.jobtext.specs.Writing.{written, Complete}
use Rattle.script.specs.declared.script.Script.{Script}
use Rattle.script.specs.Runs.{Holds}

-- the script is what is read
pub record Tells (s : Script) (t : Reading) : Type 0 where
  pub kind : s.kind ≡ t.kind
  pub entries : Holds s.entries t.entries
  pub fault : s.fault ≡ t.fault

-- the script asks for the job, and has no fault
pub record Asks (s : Script) (j : Job) : Type 0 where
  pub kind : s.kind ≡ Some j.kind
  pub requests : requests_of (vec_items s.entries) ≡ asks j
  pub blamed : blames_of (vec_items s.entries) ≡ blames j
  pub fault : s.fault ≡ None

-- what the script of a job with these bytes says of the job
pub record Follows (s : Script) (bytes : List ℕ) : Type 0 where
  -- the job that the words spell is asked for, and nothing else
  pub meant : (j : Job) → Spells j (words bytes) → Asks s j
  -- a job that is written down with decimal numbers is read back
  pub back : (j : Job) → Complete j → bytes ≡ written j → Asks s j
  -- the reading is cut at a wrong word, and at no word before it
  pub cut : (b : Blame) → s.fault ≡ Some (wrong_at b) → CutAt b (words bytes)
  -- with more words at the end, the requests begin with these
  pub begins : (vs : List Word) → (more : List Request) × (requests_of (reading_of (words bytes ++ vs)).entries ≡ requests_of (vec_items s.entries) ++ more)
