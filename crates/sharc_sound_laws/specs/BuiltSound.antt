-- What every interleaving of the code that is built of a source keeps.
use Rattle.std.specs.Prelude.{ℕ, List}
use Rattle.sharc_code.specs.{declared.shape.Shape.Shape, Layout.Fits, Runs.Turn, Whole.CheckedRun}
use Rattle.sharc_history_laws.specs.History.{history_of}
use Rattle.sharc_build.specs.{declared.building.Built.Built, Built.IsBuilt}
use Rattle.sharc_sound_laws.specs.Sound.{KeepsTo}

-- every checked run, by threads in any order, keeps to the program that the source is
abbrev pub BuiltIsSound : Type 0
BuiltIsSound = (source : List ℕ) (built : Built) → IsBuilt source built → (s : Shape) → Fits built.code s
    → (run : List Turn) → CheckedRun built.code s run → KeepsTo built.checked (history_of built.code s run)
