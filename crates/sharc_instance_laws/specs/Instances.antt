-- That there are what laws of runs ask for: a program that always obeys, a run that is stuck, and a report where
-- nothing is in flight.
use Rattle.std.specs.{Prelude.{◌≡◌, ℕ, List, Some}, Global.Global}
use Rattle.sharc_mode.specs.Moded.{Assignment}
use Rattle.sharc_check.specs.Rules.{MeetsRules}
use Rattle.sharc_code.specs.{declared.shape.Shape.Shape, declared.state.Stop.TheVariants.NotSole, Layout.Fits}
use Rattle.sharc_code.specs.{Machine.ref, Runs.Turn, Whole.{CheckedRun, Stuck, place_after}}
use Rattle.sharc_meaning.specs.Obeys.{AlwaysObeys}
use Rattle.sharc_invariant.specs.Labels.{Labels}
use Rattle.sharc_accepted_laws.specs.Targets.{targets_of}
use Rattle.sharc_history_laws.specs.Reports.{FindsOthers}
use Rattle.sharc_wants_laws.specs.Cause.{NothingIsInFlight}
use Rattle.sharc_build.specs.{declared.building.Built.Built, Built.IsBuilt}
use Rattle.sharc_instance_laws.specs.Sources.{locking_source, sharing_source}

-- ---- what is asked for
-- each run of what is built of the source obeys
pub record IsObeying (source : List ℕ) : Type 0 where
  pub built : Built
  pub is : IsBuilt source built
  pub obeys : AlwaysObeys built.checked

-- a checked run of its code is stuck
pub record GetsStuck (source : List ℕ) : Type 0 where
  pub built : Built
  pub is : IsBuilt source built
  pub shape : Shape
  pub fits : Fits built.code shape
  pub run : List Turn
  pub checked : CheckedRun built.code shape run
  pub stuck : Stuck built.code shape run

-- a thread of a checked run of its code has stopped at a cast or `free`, and wherever in the run it tested a reference
-- nothing is in flight to the object
pub record ReportsAlone (source : List ℕ) : Type 0 where
  pub built : Built
  pub is : IsBuilt source built
  pub shape : Shape
  pub fits : Fits built.code shape
  pub run : List Turn
  pub checked : CheckedRun built.code shape run
  pub thread : ℕ
  pub site : ℕ
  pub count : ℕ
  pub stop : ((place_after built.code shape run).threads thread).own.stop ≡ Some (NotSole site count)
  pub nothing : (ls : Labels) (finds : FindsOthers (targets_of built.checked) built.code shape ls run thread site count)
      → NothingIsInFlight built.checked built.code shape ls finds.earlier thread
      (ref ((place_after built.code shape finds.earlier).threads thread) finds.register)

-- ---- the laws: whatever hands out memory
abbrev pub SomeAlwaysObey : Type 0
SomeAlwaysObey = Global → IsObeying locking_source

abbrev pub SomeGetStuck : Type 0
SomeGetStuck = Global → GetsStuck locking_source

abbrev pub SomeReportAlone : Type 0
SomeReportAlone = Global → ReportsAlone sharing_source
