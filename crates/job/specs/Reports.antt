-- The report on the bytes of a job.
use Rattle.std.specs.Prelude.{◌≡◌, ℕ, List, pos, Some, None, Option}
use Rattle.faced.specs.Hulls.{box_begun, box_grown, box_reach, box_unrounded, many_begun, many_grown, many_reach, many_unrounded}
use Rattle.ball.specs.Balls.{ball_begun, ball_grown, reach_of_ball}
use Rattle.book.specs.declared.call.Request.{Request}
use Rattle.book.specs.Books.{opened}
use Rattle.jobtext.specs.declared.fault.Blame.{Blame}
use Rattle.jobtext.specs.declared.fault.Fault.{Fault}
use Rattle.jobtext.specs.declared.kind.Kind.{Kind}
use Rattle.jobtext.specs.declared.kind.Kind.TheVariants.{Box, Many, Ball}
use Rattle.jobtext.specs.Forms.{mark}
use Rattle.jobtext.specs.Readings.{requests_of, blames_of, script_of}
use Rattle.report.specs.Reports.{fault_line}
use Rattle.job.specs.Prints.{Prints, job_items}

-- the report on what was read of a job, by the kind that it names: its requests go to a register with that many items, over hulls of the
-- kind; where no kind was read, the fault is all there is to report
abbrev pub Reported : Option Fault → List Request → List Blame → Option Kind → List ℕ → Type 0
Reported fault requests blames None text = text ≡ fault_line fault
Reported fault requests blames (Some Box) text = Prints box_begun box_grown box_reach (Unit {0}) box_unrounded fault 0 (opened mark job_items) requests blames text
Reported fault requests blames (Some Many) text = Prints many_begun many_grown many_reach (Unit {0}) many_unrounded fault 0 (opened mark job_items) requests blames text
Reported fault requests blames (Some Ball) text = Prints ball_begun ball_grown reach_of_ball ⊥ (λ _ _. pos 0) fault 0 (opened mark job_items) requests blames text

-- the report on the bytes of a job
pub record Reports (bytes text : List ℕ) : Type 0 where
  pub told : Reported (script_of bytes).fault (requests_of (script_of bytes).entries) (blames_of (script_of bytes).entries) (script_of bytes).kind text
