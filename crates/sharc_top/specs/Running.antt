-- What `run` writes for a program with its modes, and with which status it ends.
use Rattle.std.specs.Prelude.{ℕ, ◌≡◌, ◌≤◌, List, Option, Some, None}
use Rattle.sharc_mode.specs.Moded.{Assignment}
use Rattle.sharc_check.specs.Rules.{MeetsRules}
use Rattle.sharc_code.specs.{declared.code.Code.Code, declared.shape.Shape.Shape, Layout.Fits, Ranges.NumbersFit}
use Rattle.sharc_run.specs.{declared.outcome.Outcome.Outcome, declared.run.Ran.Ran, Run.{IsSeededRun, IsWorkersRun}}
use Rattle.sharc_run.specs.declared.outcome.Outcome.TheVariants as outcome
use Rattle.sharc_front_end.specs.Compiled.{IsCompiled}
use Rattle.sharc_top.specs.{declared.ran.RunNumbers.RunNumbers, declared.status.Status.Status, Refused.IsModeRefusal}
use Rattle.sharc_top.specs.declared.status.Status.TheVariants as status

-- the numbers that the command line lets through
pub record AreNumbers (n : RunNumbers) : Type 0 where
  pub some_worker : 1 ≤ n.workers
  pub few_workers : n.workers ≤ 16
  pub least : 16 ≤ n.granules
  pub most : n.granules ≤ 65536
  pub few_events : n.events ≤ 100000000

-- by the worst that a thread came to
abbrev pub status_of : Outcome → Status
status_of outcome.Done = status.Done
status_of outcome.Reported = status.Reported
status_of outcome.Stopped = status.Stopped
status_of outcome.Stuck = status.Stuck
status_of outcome.Limit = status.Limit

-- the run that the seed draws, else some run
abbrev pub IsRunBy : Option ℕ → RunNumbers → Code → Shape → Ran → Type 0
IsRunBy (Some seed) n code s ran = IsSeededRun code s seed n.events ran
IsRunBy None n code s ran = IsWorkersRun code s n.events ran

-- a checked run of the code, with a heap of this many granules
pub record IsRun (n : RunNumbers) (code : Code) (ran : Ran) : Type 0 where
  pub shape : Shape
  pub fits : Fits code shape
  pub heap : shape.heap ≡ n.granules
  pub run : IsRunBy n.seed n code shape ran

-- what `check` writes where the modes are refused, else what a run of the program's code writes, whose numbers are in
-- the ranges that the machine asks for
pub data Runs (n : RunNumbers) (m : Assignment) : Status → List ℕ → Type 0 where
  not_run : (text : List ℕ) → IsModeRefusal m text → Runs n m status.ModesRefused text
  ran : (code : Code) (run : Ran) → MeetsRules m → IsCompiled m code → NumbersFit code → IsRun n code run
      → Runs n m (status_of run.outcome) run.text.items
