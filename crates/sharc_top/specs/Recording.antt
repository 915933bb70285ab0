-- What `record` and `replay` write, and with which status they end.
use Rattle.std.specs.Prelude.{◌≡◌, ℕ, ◌<◌, ◌≤◌, List, ◌++◌, length, codes, decimal, Option, IfSome}
use Rattle.sharc_mode.specs.Moded.{Assignment}
use Rattle.sharc_check.specs.Rules.{MeetsRules}
use Rattle.sharc_code.specs.{declared.code.Code.Code, declared.shape.Shape.Shape, Layout.Fits, Ranges.NumbersFit}
use Rattle.sharc_schedule.specs.File.{FileView, lines_in, IsFile, IsFault, AreNumbers}
use Rattle.sharc_replay.specs.Run.{IsRecord, IsScheduledRun}
use Rattle.sharc_report.specs.{Refusals.refusal_line, declared.refusal.SourceFault.SourceFault}
use Rattle.sharc_run.specs.declared.run.Ran.{Ran}
use Rattle.sharc_front_end.specs.{Compiled.IsCompiled, Front.{IsFront, IsSourceFault}}
use Rattle.sharc_top.specs.{declared.recorded.RecordNumbers.RecordNumbers, declared.status.Status.Status}
use Rattle.sharc_top.specs.{Limits.{source_limit, recording_limit}, Refused.IsModeRefusal, Running.status_of, Text.line}
use Rattle.sharc_top.specs.declared.status.Status.TheVariants as status

-- ---- the runs

-- the numbers that the command line lets through
pub record AreRecordNumbers (n : RecordNumbers) : Type 0 where
  pub some_worker : 1 ≤ n.workers
  pub least : 16 ≤ n.granules
  pub most : n.granules ≤ 65536
  pub few_events : n.events ≤ 200000

-- a recorded run of the code of a source, with a heap of this many granules, in which no thread makes more events than
-- this
pub record Records (source : List ℕ) (heap limit : ℕ) (code : Code) (made : Ran) : Type 0 where
  pub shape : Shape
  pub fits : Fits code shape
  pub heap_is : shape.heap ≡ heap
  pub record_is : IsRecord source code shape limit made

-- the run of the code of a file's source that the file's schedule chooses, with its heap and its limit
pub record Replays (file : FileView) (code : Code) (ran : Ran) : Type 0 where
  pub shape : Shape
  pub fits : Fits code shape
  pub heap_is : shape.heap ≡ file.heap
  pub run : IsScheduledRun code shape file.places file.limit ran

-- what `check` writes where the modes are refused, else what is made of the program's code
pub data GivesRun (m : Assignment) (Makes : Code → Ran → Type 0) : Status → List ℕ → Type 0 where
  not_made : (text : List ℕ) → IsModeRefusal m text → GivesRun m Makes status.ModesRefused text
  made : (code : Code) (run : Ran) → MeetsRules m → IsCompiled m code → NumbersFit code → Makes code run
      → GivesRun m Makes (status_of run.outcome) run.text.items

-- of a source within the limit: its first fault, else what becomes of the program that it is, with the least modes
pub data GivesSource (source : List ℕ) (Makes : Code → Ran → Type 0) : Status → List ℕ → Type 0 where
  at_fault : (fault : SourceFault) → IsSourceFault source fault
      → GivesSource source Makes status.SourceRefused (refusal_line fault)
  by_program : (m : Assignment) (s : Status) (text : List ℕ) → IsFront source m → GivesRun m Makes s text
      → GivesSource source Makes s text

-- ---- `record`

-- of an input
pub data RecordReplies (heap limit : ℕ) (input : List ℕ) : Status → List ℕ → Type 0 where
  long_input : source_limit < length input
      → RecordReplies heap limit input status.SourceRefused (line (codes "source over 1048576 bytes"))
  recorded : length input ≤ source_limit → (s : Status) (text : List ℕ)
      → GivesSource input (Records input heap limit) s text → RecordReplies heap limit input s text

-- of what a source of bytes had left; of one that does not report its bytes it is the reply to some input
pub record IsRecordReply (heap limit : ℕ) (left : Option (List ℕ)) (s : Status) (text : List ℕ) : Type 0 where
  pub input : List ℕ
  pub told : IfSome left (λ bytes. input ≡ bytes)
  pub reply : RecordReplies heap limit input s text

-- ---- `replay`

abbrev pub bad_file_line : ℕ → List ℕ
bad_file_line n = line (codes "V1 not a recorded run at line " ++ decimal n)

-- what a file says can be run
pub record IsWithinFile (file : FileView) : Type 0 where
  pub numbers : AreNumbers file.heap file.limit
  pub few : length file.places ≤ recording_limit

-- of an input; what follows the line of the text changes nothing
pub data ReplayReplies (input : List ℕ) : Status → List ℕ → Type 0 where
  long_recording : recording_limit < length input
      → ReplayReplies input status.SourceRefused (line (codes "file over 1073741824 bytes"))
  no_recording : (n : ℕ) → length input ≤ recording_limit → IsFault (lines_in input) n
      → ReplayReplies input status.SourceRefused (bad_file_line n)
  long_source_in : (file : FileView) → length input ≤ recording_limit → IsFile input file
      → source_limit < length file.source
      → ReplayReplies input status.SourceRefused (line (codes "source over 1048576 bytes"))
  replayed : (file : FileView) → length input ≤ recording_limit → IsFile input file → length file.source ≤ source_limit
      → (s : Status) (text : List ℕ) → GivesSource file.source (Replays file) s text → ReplayReplies input s text

-- of what a source of bytes had left; of one that does not report its bytes it is the reply to some input
pub record IsReplayReply (left : Option (List ℕ)) (s : Status) (text : List ℕ) : Type 0 where
  pub input : List ℕ
  pub told : IfSome left (λ bytes. input ≡ bytes)
  pub reply : ReplayReplies input s text
