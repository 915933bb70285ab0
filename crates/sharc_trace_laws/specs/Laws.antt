-- Laws of what sharc-trace writes.
use Rattle.std.specs.Prelude.{◌≡◌, ◌≢◌, ℕ, ◌≤◌, List, [], ◌++◌, length, codes, decimal, Option, Some}
use Rattle.std.specs.Io.KnownBytes.{Appends}
use Rattle.sharc_tree.specs.declared.event.SourceEvent.{SourceEvent}
use Rattle.sharc_mode.specs.Moded.{Assignment}
use Rattle.sharc_code.specs.{declared.code.Code.Code, declared.shape.Shape.Shape, Layout.Fits, Runs.Turn}
use Rattle.sharc_audit.specs.declared.audit.EventFault.{EventFault}
use Rattle.sharc_build.specs.{declared.building.Built.Built, Built.IsBuilt}
use Rattle.sharc_cli.specs.{Commands.commands, declared.command.Command.TheVariants.Audit}
use Rattle.sharc_traced.specs.declared.cut.Cut.TheVariants.{Refused}
use Rattle.sharc_schedule.specs.File.{FileView, written}
use Rattle.sharc_replay.specs.Run.{IsRecordedRun, file_of}
use Rattle.sharc_run.specs.declared.run.Ran.{Ran}
use Rattle.sharc_front_end.specs.Compiled.{IsCompiled}
use Rattle.sharc_top.specs.{declared.status.Status.Status, EventFiles.IsFewIn, Limits.{source_limit, recording_limit}}
use Rattle.sharc_top.specs.Reply.{IsReply, Replied}
use Rattle.sharc_reply_laws.specs.RecordLaws.{IsRecorded}
use Rattle.sharc_traced.specs.{declared.reply.Reply.Reply, Replies.{IsFileOf, IsRunOf, IsTraceReply, history}}

-- ---- the event file
-- of a program within the limit: its text is an event file, with the lines of the first events of the run
abbrev pub FilesAreEventFiles : Type 0
FilesAreEventFiles = (source : List ℕ) (built : Built) → IsBuilt source built → length source ≤ source_limit
    → (history : List SourceEvent) (reply : Reply)
    → (is : IsFileOf built.checked built.code source history reply)
    → IsFewIn reply.text.items source 65536 is.is_front.lines

-- and audit, which is given that text, writes that these events obey
abbrev pub FilesAreAudited : Type 0
FilesAreAudited = (source : List ℕ) (built : Built) → IsBuilt source built → length source ≤ source_limit
    → (history : List SourceEvent) (reply : Reply)
    → (is : IsFileOf built.checked built.code source history reply)
    → (words : List (List ℕ)) → commands words ≡ Some Audit
    → (old new : Option (List ℕ)) (code : ℕ) → Replied words (Some reply.text.items) old new code
    → (code ≡ 0) × Appends old new (codes "obeys " ++ decimal is.front.count ++ codes " events\n")

-- ---- where it ends
-- never before an event that audit finds to be at fault
abbrev pub NoneIsAtFault : Type 0
NoneIsAtFault = (source : List ℕ) (built : Built) → IsBuilt source built
    → (file : FileView) (shape : Shape) (turns : List Turn) → IsRunOf file built.code shape turns
    → (reply : Reply) (is : IsFileOf built.checked built.code source (history built.code shape turns) reply)
    → (fault : EventFault) → is.front.cut ≢ Refused fault

-- ---- of the file that `record` wrote
-- its text is that of a recorded run, and the event file is of the events of that run
pub record IsOfRecorded (source : List ℕ) (heap limit : ℕ) (m : Assignment) (text : List ℕ)
    (reply : Reply) : Type 0 where
  pub code : Code
  pub compiled : IsCompiled m code
  pub shape : Shape
  pub fits : Fits code shape
  pub heap_is : shape.heap ≡ heap
  pub places : List (ℕ × ℕ)
  pub ran : Ran
  pub run : IsRecordedRun code shape limit places ran
  pub recording : text ≡ written (file_of source shape limit places) ran.text.items
  pub built : Built
  pub is_built : IsBuilt source built
  pub same : built.checked ≡ m
  pub file : IsFileOf built.checked built.code source (history code shape run.turns) reply

-- where the source is a program with accepted modes, and the file is within the limit
abbrev pub RecordingsAreTraced : Type 0
RecordingsAreTraced = (words : List (List ℕ)) (heap limit : ℕ) (source : List ℕ) (m : Assignment)
    → IsRecorded words heap limit source m
    → (s : Status) (text : List ℕ) → IsReply words (Some source) s text → length text ≤ recording_limit
    → (reply : Reply) → IsTraceReply [] (Some text) reply → IsOfRecorded source heap limit m text reply
