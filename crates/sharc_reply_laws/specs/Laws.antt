-- What is one: the warnings of a program, what a source is, and the reply, where nothing is run; and which reply it is
-- where the source is a program.
use Rattle.std.specs.{Prelude.{◌≡◌, ℕ, ◌≤◌, List, ◌++◌, length, Option, Some, None}, Io.KnownBytes.Appends}
use Rattle.sharc_ctype.specs.Resolved.{Resolution}
use Rattle.sharc_mode.specs.{declared.error.Warning.Warning, Moded.Assignment}
use Rattle.sharc_check.specs.Rules.{MeetsRules}
use Rattle.sharc_live.specs.Uses.{AreWarnings}
use Rattle.sharc_code.specs.{declared.code.Code.Code, Ranges.NumbersFit}
use Rattle.sharc_cli.specs.{Commands.commands, declared.command.Command.Command}
use Rattle.sharc_cli.specs.declared.command.Command.TheVariants as command
use Rattle.sharc_report.specs.{Explanations.explain_text, Verdicts.accepted_text}
use Rattle.sharc_report.specs.declared.refusal.SourceFault.{SourceFault}
use Rattle.sharc_run.specs.declared.run.Ran.{Ran}
use Rattle.sharc_front_end.specs.{Compiled.IsCompiled, Front.{IsFront, IsSourceFault}}
use Rattle.sharc_top.specs.{declared.ran.RunNumbers.RunNumbers, declared.status.Status.Status}
use Rattle.sharc_top.specs.{declared.task.SourceTask.SourceTask, Limits.source_limit, Answers.Answers}
use Rattle.sharc_top.specs.{Reply.{task_in, Replies, IsReply, Replied}, Running.{status_of, IsRun}}
use Rattle.sharc_top.specs.declared.status.Status.TheVariants as status
use Rattle.sharc_top.specs.declared.task.SourceTask.TheVariants as task

abbrev pub WarningsAreOne : Type 0
WarningsAreOne = (r : Resolution) (a b : List Warning) → AreWarnings r a → AreWarnings r b → a ≡ b

-- ---- the source

-- a source is one program with one assignment of modes
abbrev pub ProgramsAreOne : Type 0
ProgramsAreOne = (source : List ℕ) (a b : Assignment) → IsFront source a → IsFront source b → a ≡ b

-- and then has no fault
abbrev pub ProgramsHaveNoFault : Type 0
ProgramsHaveNoFault = (source : List ℕ) (m : Assignment) → IsFront source m
    → (fault : SourceFault) → IsSourceFault source fault → ⊥

-- its first fault is one
abbrev pub FaultsAreOne : Type 0
FaultsAreOne = (source : List ℕ) (x y : SourceFault) → IsSourceFault source x → IsSourceFault source y → x ≡ y

pub record SourceLaws : Type 0 where
  pub program : ProgramsAreOne
  pub faultless : ProgramsHaveNoFault
  pub fault : FaultsAreOne

-- ---- the reply

-- a run may have several interleavings
abbrev pub RunsNothing : SourceTask → Type 0
RunsNothing task.Check = Unit {0}
RunsNothing task.Explain = Unit {0}
RunsNothing (task.Run numbers) = ⊥

abbrev pub MakesRun : Option Command → Type 0
MakesRun (Some (command.Run workers granules events seed)) = Unit {0}
MakesRun (Some (command.Load number workers)) = Unit {0}
MakesRun (Some (command.Record workers granules events)) = Unit {0}
MakesRun (Some command.Replay) = Unit {0}
MakesRun _ = ⊥

-- what is written for a source within the limit, and the status
abbrev pub AnswersAreOne : Type 0
AnswersAreOne = (t : SourceTask) → RunsNothing t → (source : List ℕ) (s z : Status) (text other : List ℕ)
    → Answers t source s text → Answers t source z other → (s ≡ z) × (text ≡ other)

-- for any words that run nothing and any input
abbrev pub RepliesAreOne : Type 0
RepliesAreOne = (words : List (List ℕ)) → ¬ (MakesRun (commands words))
    → (input : List ℕ) (s z : Status) (text other : List ℕ) → Replies words input s text → Replies words input z other
    → (s ≡ z) × (text ≡ other)

-- and for a source that reports its bytes
abbrev pub ReplyIsOne : Type 0
ReplyIsOne = (words : List (List ℕ)) → ¬ (MakesRun (commands words))
    → (bytes : List ℕ) (s z : Status) (text other : List ℕ) → IsReply words (Some bytes) s text
    → IsReply words (Some bytes) z other → (s ≡ z) × (text ≡ other)

pub record ReplyLaws : Type 0 where
  pub answers : AnswersAreOne
  pub replies : RepliesAreOne
  pub reply : ReplyIsOne

-- ---- where the source is a program

-- The words are those of this task; the source is within the limit, and this program with these modes.
pub record IsAsked (words : List (List ℕ)) (t : SourceTask) (input : List ℕ) (m : Assignment) : Type 0 where
  pub asked : task_in (commands words) ≡ Some t
  pub within : length input ≤ source_limit
  pub front : IsFront input m

-- the full text of `check` where its modes are accepted: its warnings, and `accepted`
pub record IsAcceptance (m : Assignment) (text : List ℕ) : Type 0 where
  pub warnings : List Warning
  pub are : AreWarnings m.typed warnings
  pub written : text ≡ accepted_text m.typed warnings

-- and of `explain`: its table before that
pub record IsExplanation (m : Assignment) (text : List ℕ) : Type 0 where
  pub verdict : List ℕ
  pub accepts : IsAcceptance m verdict
  pub written : text ≡ explain_text m ++ verdict

-- where the modes are accepted no reply is another, whether it is written whole or in part
abbrev pub ChecksAreOnly : Type 0
ChecksAreOnly =
    (words : List (List ℕ)) (input : List ℕ) (m : Assignment) → IsAsked words task.Check input m → MeetsRules m
    → (s : Status) (text : List ℕ) → IsReply words (Some input) s text → (s ≡ status.Done) × IsAcceptance m text

abbrev pub ExplainsAreOnly : Type 0
ExplainsAreOnly =
    (words : List (List ℕ)) (input : List ℕ) (m : Assignment) → IsAsked words task.Explain input m → MeetsRules m
    → (s : Status) (text : List ℕ) → IsReply words (Some input) s text → (s ≡ status.Done) × IsExplanation m text

-- what `run` writes where the modes are accepted: the text of a run of the program's code, with these numbers, with the
-- status of that run
pub record IsRunning (n : RunNumbers) (m : Assignment) (s : Status) (text : List ℕ) : Type 0 where
  pub code : Code
  pub compiled : IsCompiled m code
  pub fits : NumbersFit code
  pub ran : Ran
  pub runs : IsRun n code ran
  pub ends : s ≡ status_of ran.outcome
  pub written : text ≡ ran.text.items

abbrev pub RunsAreOnly : Type 0
RunsAreOnly =
    (words : List (List ℕ)) (n : RunNumbers) (input : List ℕ) (m : Assignment) → IsAsked words (task.Run n) input m
    → MeetsRules m → (s : Status) (text : List ℕ) → IsReply words (Some input) s text → IsRunning n m s text

-- so where it is written whole the exit status is 0
abbrev pub ChecksAreTold : Type 0
ChecksAreTold =
    (words : List (List ℕ)) (input : List ℕ) (m : Assignment) → IsAsked words task.Check input m → MeetsRules m
    → (old new : Option (List ℕ)) (code : ℕ) → Replied words (Some input) old new code
    → (code ≡ 0) × (text : List ℕ) × IsAcceptance m text × Appends old new text

abbrev pub ExplainsAreTold : Type 0
ExplainsAreTold =
    (words : List (List ℕ)) (input : List ℕ) (m : Assignment) → IsAsked words task.Explain input m → MeetsRules m
    → (old new : Option (List ℕ)) (code : ℕ) → Replied words (Some input) old new code
    → (code ≡ 0) × (text : List ℕ) × IsExplanation m text × Appends old new text

-- and where they are not it is 1, for `run` too
abbrev pub OthersAreRefused : Type 0
OthersAreRefused =
    (words : List (List ℕ)) (t : SourceTask) (input : List ℕ) (m : Assignment) → IsAsked words t input m
    → ¬ (MeetsRules m)
    → (old new : Option (List ℕ)) (code : ℕ) → Replied words (Some input) old new code → code ≡ 1

pub record VerdictLaws : Type 0 where
  pub check_only : ChecksAreOnly
  pub explain_only : ExplainsAreOnly
  pub run_only : RunsAreOnly
  pub checks : ChecksAreTold
  pub explains : ExplainsAreTold
  pub refused : OthersAreRefused
