-- What every interleaving of the code of an accepted program keeps, where the code is typed.
use Rattle.std.specs.Prelude.{List}
use Rattle.sharc_mode.specs.Moded.{Assignment}
use Rattle.sharc_code.specs.{declared.code.Code.Code, declared.shape.Shape.Shape, Layout.Fits, Runs.Turn}
use Rattle.sharc_code.specs.Whole.{CheckedRun}
use Rattle.sharc_flat.specs.{declared.flat.Flat.{Flat as FlatCode}, Made.flat_of, Laws.FitsMade, Flattens.Flattens}
use Rattle.sharc_compile.specs.Made.{IsCodeOf}
use Rattle.sharc_flat_laws.specs.Typed.{IsTypedProgram}
use Rattle.sharc_meaning.specs.{Obeys.{History, Obeys, until_return}, Runs.SourceRun}
use Rattle.sharc_invariant.specs.{Types.Targets, Labels.Labels, Typed.IsWellTyped, State.IsSmall}
use Rattle.sharc_history_laws.specs.History.{history_of}
use Rattle.sharc_sound_laws.specs.Begins.{AreUnsigned}

-- They are a run of the source without checks: each thread asks for the events that are its own, after the Started with
-- which main or an earlier Spawn began it, and each event may come after those before it. And they keep the rules of
-- the modes.
pub record KeepsTo (m : Assignment) (R : History) : Type 0 where
  pub source : SourceRun m R
  pub obeys : Obeys R until_return

-- so does every checked run of the code of a typed, well-moded program with its least assignment, where that code is
-- typed
abbrev pub SoundIfTyped : Type 0
SoundIfTyped = (m : Assignment) → IsTypedProgram m → AreUnsigned m.typed
    → (flat : FlatCode) → Flattens m flat → FitsMade (flat_of flat) → (code : Code) → IsCodeOf flat code
    → (x : Targets) (ls : Labels) → IsWellTyped x code ls → (s : Shape) → Fits code s → IsSmall code s
    → (run : List Turn) → CheckedRun code s run → KeepsTo m (history_of code s run)
