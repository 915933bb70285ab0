-- A stuck run of the code that is built of a source is a deadlock of the source.
use Rattle.std.specs.Prelude.{ℕ, List}
use Rattle.sharc_code.specs.{declared.shape.Shape.Shape, Layout.Fits, Runs.Turn, Whole.{CheckedRun, Stuck}}
use Rattle.sharc_build.specs.{declared.building.Built.Built, Built.IsBuilt}
use Rattle.sharc_sound_laws.specs.Deadlock.{IsDeadlock}

-- no event of a thread that was not stopped extends its events to a source run
abbrev pub BuiltStuckIsDeadlock : Type 0
BuiltStuckIsDeadlock = (source : List ℕ) (built : Built) → IsBuilt source built → (s : Shape) → Fits built.code s
    → (run : List Turn) → CheckedRun built.code s run → Stuck built.code s run
    → IsDeadlock built.checked built.code s run
