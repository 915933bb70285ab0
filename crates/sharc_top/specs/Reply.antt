-- What the program writes for its words and its input, and with which status it ends.
use Rattle.std.specs.Prelude.{◌≡◌, ◌⊎◌, Bool, true, false, ℕ, ◌<◌, ◌≤◌, List, length, take, codes, Option, Some, None}
use Rattle.std.specs.Prelude.{IfSome, IsSome}
use Rattle.std.specs.Io.KnownBytes.{Appends}
use Rattle.sharc_cli.specs.{Commands.commands, declared.command.Command.Command}
use Rattle.sharc_cli.specs.declared.command.Command.TheVariants as command
use Rattle.sharc_top.specs.{declared.status.Status.Status, declared.task.SourceTask.SourceTask, Answers.Answers}
use Rattle.sharc_top.specs.{EventFiles.FileReplies, Loading.LoadReplies, Limits.source_limit}
use Rattle.sharc_top.specs.{Recording.{RecordReplies, ReplayReplies}, Status.code_of, Text.line}
use Rattle.sharc_top.specs.declared.status.Status.TheVariants as status
use Rattle.sharc_top.specs.declared.task.SourceTask.TheVariants as task

-- ---- the words

-- what a command does with a source; none of the commands that read none
abbrev pub task_of : Command → Option SourceTask
task_of command.Check = Some task.Check
task_of command.Explain = Some task.Explain
task_of (command.Run workers granules events seed) =
    Some (task.Run (record { workers = workers; granules = granules; events = events; seed = seed }))
task_of _ = None

abbrev pub task_in : Option Command → Option SourceTask
task_in None = None
task_in (Some c) = task_of c

-- the words are `check`, `explain`, or `run` with options or without
abbrev pub ReadsSource : List (List ℕ) → Type 0
ReadsSource words = IsSome (task_in (commands words))

-- `record`, which reads a source, and `replay` and `audit`, which read a file
abbrev pub reads_more : Option Command → Bool
reads_more (Some (command.Record workers granules events)) = true
reads_more (Some command.Replay) = true
reads_more (Some command.Audit) = true
reads_more _ = false

abbrev pub ReadsInput : List (List ℕ) → Type 0
ReadsInput words = ReadsSource words ⊎ (reads_more (commands words) ≡ true)

abbrev pub usage_text : List ℕ
usage_text = codes "usage: check | explain | run [--workers N] [--granules N] [--events N] [--seed N] | load N [--workers N] | record [--workers N] [--granules N] [--events N] | replay | audit"

-- ---- the reply

-- what is written for the words and the input, and the status
pub data Replies (words : List (List ℕ)) (input : List ℕ) : Status → List ℕ → Type 0 where
  usage : commands words ≡ None → Replies words input status.Usage (line usage_text)
  too_long : ReadsSource words → source_limit < length input
      → Replies words input status.SourceRefused (line (codes "source over 1048576 bytes"))
  answered : (t : SourceTask) (s : Status) (text : List ℕ) → task_in (commands words) ≡ Some t
      → length input ≤ source_limit
      → Answers t input s text → Replies words input s text
  loaded : (number workers : ℕ) (s : Status) (text : List ℕ) → commands words ≡ Some (command.Load number workers)
      → LoadReplies number workers s text → Replies words input s text
  recorded : (workers heap limit : ℕ) (s : Status) (text : List ℕ) → commands words
      ≡ Some (command.Record workers heap limit) → RecordReplies heap limit input s text → Replies words input s text
  replayed : (s : Status) (text : List ℕ) → commands words ≡ Some command.Replay → ReplayReplies input s text
      → Replies words input s text
  audited : (s : Status) (text : List ℕ) → commands words ≡ Some command.Audit → FileReplies input s text
      → Replies words input s text

-- The reply to the words and to what the source had left. Of a source that does not report its bytes it is the reply to
-- some input.
pub record IsReply (words : List (List ℕ)) (left : Option (List ℕ)) (s : Status) (text : List ℕ) : Type 0 where
  pub input : List ℕ
  pub told : IfSome left (λ bytes. input ≡ bytes)
  pub reply : Replies words input s text

-- the whole reply was written, and this is its exit status
pub record Replied (words : List (List ℕ)) (left old new : Option (List ℕ)) (code : ℕ) : Type 0 where
  pub status : Status
  pub ends : code ≡ code_of status
  pub text : List ℕ
  pub reply : IsReply words left status text
  pub written : Appends old new text

-- a front part of the reply was written, and not all of it
pub record RepliedInPart (words : List (List ℕ)) (left old new : Option (List ℕ)) : Type 0 where
  pub status : Status
  pub text : List ℕ
  pub reply : IsReply words left status text
  pub count : ℕ
  pub short : count < length text
  pub written : Appends old new (take count text)
