-- Which replies `record` and `replay` have where the source is a program with accepted modes, and what `replay` makes
-- of the file that `record` wrote.
use Rattle.std.specs.Prelude.{◌≡◌, ℕ, ◌≤◌, List, length, Some}
use Rattle.sharc_mode.specs.Moded.{Assignment}
use Rattle.sharc_check.specs.Rules.{MeetsRules}
use Rattle.sharc_code.specs.{declared.code.Code.Code, Ranges.NumbersFit}
use Rattle.sharc_cli.specs.{Commands.commands, declared.command.Command.TheVariants.{Record, Replay}}
use Rattle.sharc_schedule.specs.File.{FileView, IsFile, written}
use Rattle.sharc_run.specs.declared.run.Ran.{Ran}
use Rattle.sharc_front_end.specs.{Compiled.IsCompiled, Front.IsFront}
use Rattle.sharc_top.specs.{declared.status.Status.Status, Limits.{source_limit, recording_limit}}
use Rattle.sharc_top.specs.{Recording.{Records, Replays}, Reply.IsReply, Running.status_of}

-- ---- `record`

-- the run of this code by a file's schedule has the text that follows in the file, and the outcome of the recorded run
pub record SaysAgain (file : FileView) (made again : Ran) : Type 0 where
  pub text : made.text.items ≡ written file again.text.items
  pub outcome : made.outcome ≡ again.outcome

-- what was written is one recorded file, which says the source, the heap and the limit, and a schedule by which the
-- same code runs so
pub record IsReplayable (source : List ℕ) (heap limit : ℕ) (code : Code) (made : Ran) : Type 0 where
  pub file : FileView
  pub is : IsFile made.text.items file
  pub only : (other : FileView) → IsFile made.text.items other → other ≡ file
  pub source_is : file.source ≡ source
  pub heap_is : file.heap ≡ heap
  pub limit_is : file.limit ≡ limit
  pub again : (ran : Ran) → Replays file code ran → SaysAgain file made ran

-- the words are those of `record` with these numbers; the source is within the limit, and this program with these
-- modes, which are accepted
pub record IsRecorded (words : List (List ℕ)) (heap limit : ℕ) (source : List ℕ) (m : Assignment) : Type 0 where
  pub workers : ℕ
  pub asked : commands words ≡ Some (Record workers heap limit)
  pub within : length source ≤ source_limit
  pub front : IsFront source m
  pub meets : MeetsRules m

-- a reply is the file of a run of the code of the program, with the status of that run
pub record IsRecording (source : List ℕ) (heap limit : ℕ) (m : Assignment) (s : Status) (text : List ℕ) : Type 0 where
  pub code : Code
  pub compiled : IsCompiled m code
  pub fits : NumbersFit code
  pub made : Ran
  pub records : Records source heap limit code made
  pub replayable : IsReplayable source heap limit code made
  pub ends : s ≡ status_of made.outcome
  pub written : text ≡ made.text.items

abbrev pub RecordsAreOnly : Type 0
RecordsAreOnly =
    (words : List (List ℕ)) (heap limit : ℕ) (source : List ℕ) (m : Assignment) → IsRecorded words heap limit source m
    → (s : Status) (text : List ℕ) → IsReply words (Some source) s text → IsRecording source heap limit m s text

-- ---- `replay`

-- the words are those of `replay`; the input is a recorded file within the limits, whose source is this program with
-- these modes, which are accepted
pub record IsReplayed (words : List (List ℕ)) (input : List ℕ) (file : FileView) (m : Assignment) : Type 0 where
  pub asked : commands words ≡ Some Replay
  pub short : length input ≤ recording_limit
  pub is : IsFile input file
  pub within : length file.source ≤ source_limit
  pub front : IsFront file.source m
  pub meets : MeetsRules m

-- a reply is the text of the run of the code of the program that the file's schedule chooses, with the status of that
-- run
pub record IsReplaying (file : FileView) (m : Assignment) (s : Status) (text : List ℕ) : Type 0 where
  pub code : Code
  pub compiled : IsCompiled m code
  pub fits : NumbersFit code
  pub ran : Ran
  pub replays : Replays file code ran
  pub ends : s ≡ status_of ran.outcome
  pub written : text ≡ ran.text.items

abbrev pub ReplaysAreOnly : Type 0
ReplaysAreOnly =
    (words : List (List ℕ)) (input : List ℕ) (file : FileView) (m : Assignment) → IsReplayed words input file m
    → (s : Status) (text : List ℕ) → IsReply words (Some input) s text → IsReplaying file m s text

-- ---- `replay` of what `record` wrote

-- the text is what follows in the file, and both end with one status
pub record SaysTheSame (text : List ℕ) (s : Status) (again : List ℕ) (t : Status) : Type 0 where
  pub file : FileView
  pub is : IsFile text file
  pub follows : text ≡ written file again
  pub status : t ≡ s

-- whichever code each of them made
abbrev pub ReplaysSayAgain : Type 0
ReplaysSayAgain =
    (words : List (List ℕ)) (heap limit : ℕ) (source : List ℕ) (m : Assignment) → IsRecorded words heap limit source m
    → (s : Status) (text : List ℕ) → IsReply words (Some source) s text
    → length text ≤ recording_limit → (other : List (List ℕ)) → commands other ≡ Some Replay
    → (t : Status) (again : List ℕ) → IsReply other (Some text) t again → SaysTheSame text s again t

pub record RecordLaws : Type 0 where
  pub records : RecordsAreOnly
  pub replays : ReplaysAreOnly
  pub again : ReplaysSayAgain
