-- What is written for a source, and with which status the call ends.
use Rattle.std.specs.Prelude.{ℕ, List}
use Rattle.sharc_mode.specs.Moded.{Assignment}
use Rattle.sharc_report.specs.{Refusals.refusal_line, declared.refusal.SourceFault.SourceFault}
use Rattle.sharc_front_end.specs.Front.{IsFront, IsSourceFault}
use Rattle.sharc_top.specs.{declared.status.Status.Status, declared.task.SourceTask.SourceTask, Verdict.Does}
use Rattle.sharc_top.specs.declared.status.Status.TheVariants as status

-- What is written for a source within the limit, and the status: the first fault of the first stage that has one, else
-- what becomes of the program that it is, with the least modes.
pub data Answers (t : SourceTask) (source : List ℕ) : Status → List ℕ → Type 0 where
  faulty : (fault : SourceFault) → IsSourceFault source fault
      → Answers t source status.SourceRefused (refusal_line fault)
  program : (m : Assignment) (s : Status) (text : List ℕ) → IsFront source m → Does t m s text → Answers t source s text
