-- What stands of the runs of the code that is built of a source, beside that they keep to the program.
use Rattle.std.specs.Prelude.{ℕ, List}
use Rattle.sharc_code.specs.{declared.shape.Shape.Shape, Layout.Fits, Runs.Turn, Whole.CheckedRun}
use Rattle.sharc_invariant.specs.{Labels.Labels, Typed.IsWellTyped}
use Rattle.sharc_accepted_laws.specs.Targets.{targets_of}
use Rattle.sharc_build.specs.{declared.building.Built.Built, Built.IsBuilt}
use Rattle.sharc_sound_laws.specs.StandStands.{RunStands}

-- the code is typed, and so it is of every checked run, by threads in any order
abbrev pub BuiltRunsStand : Type 0
BuiltRunsStand = (source : List ℕ) (built : Built) → IsBuilt source built
    → (ls : Labels) × IsWellTyped (targets_of built.checked) built.code ls
    × ((s : Shape) → Fits built.code s → (run : List Turn) → CheckedRun built.code s run
    → RunStands built.checked (targets_of built.checked) built.code s ls run)
