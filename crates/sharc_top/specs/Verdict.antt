-- What `check`, `explain` and `run` write for a program with its modes, and with which status they end.
use Rattle.std.specs.Prelude.{ℕ, List, ◌++◌}
use Rattle.sharc_mode.specs.{declared.error.Warning.Warning, Moded.Assignment}
use Rattle.sharc_check.specs.Rules.{MeetsRules}
use Rattle.sharc_live.specs.Uses.{AreWarnings}
use Rattle.sharc_report.specs.{Explanations.explain_text, Verdicts.accepted_text}
use Rattle.sharc_top.specs.{declared.status.Status.Status, declared.task.SourceTask.SourceTask, Refused.IsModeRefusal}
use Rattle.sharc_top.specs.Running.{AreNumbers, Runs}
use Rattle.sharc_top.specs.declared.status.Status.TheVariants as status
use Rattle.sharc_top.specs.declared.task.SourceTask.TheVariants as task

-- what `check` writes; of modes that are accepted, the reads of locals that a sharing cast or `free` may have nulled
pub data Checks (m : Assignment) : Status → List ℕ → Type 0 where
  accepted : (warnings : List Warning) → MeetsRules m → AreWarnings m.typed warnings
      → Checks m status.Done (accepted_text m.typed warnings)
  refused : (text : List ℕ) → IsModeRefusal m text → Checks m status.ModesRefused text

-- `explain` writes each variable's type with its modes and reasons, then what `check` writes
pub data Explains (m : Assignment) : Status → List ℕ → Type 0 where
  explained : (s : Status) (verdict : List ℕ) → Checks m s verdict → Explains m s (explain_text m ++ verdict)

abbrev pub Does : SourceTask → Assignment → Status → List ℕ → Type 0
Does task.Check = Checks
Does task.Explain = Explains
Does (task.Run numbers) = Runs numbers

-- its numbers are those that the command line lets through
abbrev pub IsTask : SourceTask → Type 0
IsTask task.Check = Unit {0}
IsTask task.Explain = Unit {0}
IsTask (task.Run numbers) = AreNumbers numbers
