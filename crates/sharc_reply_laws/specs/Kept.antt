-- What is written of runs of a source whose modes are accepted: the text of an interleaving of its code that performs a
-- run of the source without checks, and keeps the modes.
use Rattle.std.specs.Prelude.{◌≡◌, ℕ, List, Some}
use Rattle.sharc_mode.specs.Moded.{Assignment}
use Rattle.sharc_check.specs.Rules.{MeetsRules}
use Rattle.sharc_code.specs.{declared.code.Code.Code, declared.shape.Shape.Shape, Runs.Turn}
use Rattle.sharc_code.specs.Whole.{CheckedRun, place_after}
use Rattle.sharc_history_laws.specs.History.{history_of}
use Rattle.sharc_run.specs.{declared.run.Ran.Ran, Run.IsEnd}
use Rattle.sharc_front_end.specs.Compiled.{IsCompiled}
use Rattle.sharc_sound_laws.specs.Sound.{KeepsTo}
use Rattle.sharc_top.specs.{declared.ran.RunNumbers.RunNumbers, declared.status.Status.Status, Reply.IsReply}
use Rattle.sharc_top.specs.Running.{status_of}
use Rattle.sharc_top.specs.declared.task.SourceTask.TheVariants as task
use Rattle.sharc_reply_laws.specs.{Laws.IsAsked, RecordLaws.{IsRecorded, IsReplayed}}
use Rattle.sharc_schedule.specs.File.{FileView}

-- this is the end of an interleaving of the code of the program, with a heap of so many granules, whose source events
-- are a run of the source that keeps the modes
pub record IsKept (m : Assignment) (heap limit : ℕ) (ran : Ran) : Type 0 where
  pub code : Code
  pub compiled : IsCompiled m code
  pub shape : Shape
  pub heap_is : shape.heap ≡ heap
  pub turns : List Turn
  pub checked : CheckedRun code shape turns
  pub keeps : KeepsTo m (history_of code shape turns)
  pub ends : IsEnd code shape limit (place_after code shape turns) ran

-- ---- `run`
-- its text is what is written, with the status of its outcome
pub record IsTextOfKept (m : Assignment) (heap limit : ℕ) (s : Status) (text : List ℕ) : Type 0 where
  pub ran : Ran
  pub kept : IsKept m heap limit ran
  pub ends : s ≡ status_of ran.outcome
  pub written : text ≡ ran.text.items

-- where the modes of a source are accepted, no reply to `run` is another
abbrev pub RunsKeep : Type 0
RunsKeep = (words : List (List ℕ)) (n : RunNumbers) (input : List ℕ) (m : Assignment)
    → IsAsked words (task.Run n) input m → MeetsRules m
    → (s : Status) (text : List ℕ) → IsReply words (Some input) s text
    → IsTextOfKept m n.granules n.events s text

-- ---- `replay`
-- nor to `replay` of a file whose source is such a program
abbrev pub ReplaysKeep : Type 0
ReplaysKeep = (words : List (List ℕ)) (input : List ℕ) (file : FileView) (m : Assignment)
    → IsReplayed words input file m → (s : Status) (text : List ℕ) → IsReply words (Some input) s text
    → IsTextOfKept m file.heap file.limit s text

-- ---- `record`
-- what is written is a recorded file of such an interleaving
pub record IsFileOfKept (m : Assignment) (heap limit : ℕ) (s : Status) : Type 0 where
  pub ran : Ran
  pub kept : IsKept m heap limit ran
  pub ends : s ≡ status_of ran.outcome

abbrev pub RecordsKeep : Type 0
RecordsKeep = (words : List (List ℕ)) (heap limit : ℕ) (source : List ℕ) (m : Assignment)
    → IsRecorded words heap limit source m → (s : Status) (text : List ℕ) → IsReply words (Some source) s text
    → IsFileOfKept m heap limit s

pub record KeptLaws : Type 0 where
  pub runs : RunsKeep
  pub replays : ReplaysKeep
  pub records : RecordsKeep
