-- The reports of the runs of the code that is built of a source.
use Rattle.std.specs.Prelude.{◌≡◌, ℕ, List, Some}
use Rattle.sharc_code.specs.{declared.shape.Shape.Shape, declared.state.TurnState.TheVariants.Stopped}
use Rattle.sharc_code.specs.{declared.state.Stop.Stop, declared.state.Stop.TheVariants.NotSole, Layout.Fits, Runs.Turn}
use Rattle.sharc_code.specs.Whole.{CheckedRun, place_after}
use Rattle.sharc_compile.specs.Refused.{IsReport}
use Rattle.sharc_invariant.specs.{Labels.Labels, Typed.IsWellTyped}
use Rattle.sharc_meaning.specs.Obeys.{AlwaysObeys}
use Rattle.sharc_accepted_laws.specs.Targets.{targets_of}
use Rattle.sharc_build.specs.{declared.building.Built.Built, Built.IsBuilt}
use Rattle.sharc_sound_laws.specs.{Obeying.NoAccessReport, Reports.IsReportOf}
use Rattle.sharc_wants_laws.specs.Cause.{ShowsReference}

-- where every source run obeys there is none of A1 to A3
abbrev pub BuiltObeyingIsUnreported : Type 0
BuiltObeyingIsUnreported = (source : List ℕ) (built : Built) → IsBuilt source built → AlwaysObeys built.checked
    → (s : Shape) → Fits built.code s
    → (run : List Turn) → CheckedRun built.code s run → NoAccessReport built.code s run

-- each shows its cause, and comes at the event that the source wants next
abbrev pub BuiltReportsShow : Type 0
BuiltReportsShow = (source : List ℕ) (built : Built) → IsBuilt source built → (s : Shape) → Fits built.code s
    → (run : List Turn) → CheckedRun built.code s run → (t : ℕ) (stop : Stop)
    → ((place_after built.code s run).threads t).at.state ≡ Stopped
    → ((place_after built.code s run).threads t).own.stop ≡ Some stop → IsReport stop
    → (ls : Labels) × IsReportOf built.checked (targets_of built.checked) built.code s ls run t stop

-- where a cast or `free` was refused and no other thread has a reference to its object in flight, the references of the
-- history have another one than that which was tested; labels by which the code is typed say which cells of objects are
-- pointers
abbrev pub BuiltCastsShow : Type 0
BuiltCastsShow = (source : List ℕ) (built : Built) → IsBuilt source built → (s : Shape) → Fits built.code s
    → (run : List Turn) → CheckedRun built.code s run → (t site count : ℕ)
    → ((place_after built.code s run).threads t).own.stop ≡ Some (NotSole site count)
    → (ls : Labels) × IsWellTyped (targets_of built.checked) built.code ls
    × ShowsReference built.checked built.code s ls run t site count
