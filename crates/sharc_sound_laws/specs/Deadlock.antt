-- A stuck run of the code of an accepted program is a deadlock of the source, where the code is typed.
use Rattle.std.specs.Prelude.{◌≢◌, ℕ, List, [], ◌∷◌, ◌++◌}
use Rattle.sharc_tree.specs.declared.event.SourceEvent.{SourceEvent}
use Rattle.sharc_mode.specs.Moded.{Assignment}
use Rattle.sharc_code.specs.{declared.code.Code.Code, declared.shape.Shape.Shape}
use Rattle.sharc_code.specs.{declared.state.TurnState.TheVariants.Stopped, Layout.Fits, Runs.Turn}
use Rattle.sharc_code.specs.Whole.{CheckedRun, Stuck, place_after}
use Rattle.sharc_flat.specs.{declared.flat.Flat.{Flat as FlatCode}, Made.flat_of, Laws.FitsMade, Flattens.Flattens}
use Rattle.sharc_meaning.specs.Runs.{SourceRun}
use Rattle.sharc_compile.specs.Made.{IsCodeOf}
use Rattle.sharc_accepted_laws.specs.Accepted.{IsSourceProgram}
use Rattle.sharc_invariant.specs.{Types.Targets, Labels.Labels, Typed.IsWellTyped, State.IsSmall}
use Rattle.sharc_history_laws.specs.History.{history_of}
use Rattle.sharc_build.specs.{declared.building.Built.Built, Built.IsBuilt}

-- no event of a thread that was not stopped extends the events of the run to a source run
abbrev pub IsDeadlock : Assignment → Code → Shape → List Turn → Type 0
IsDeadlock m code s run = (e : SourceEvent) → ((place_after code s run).threads e.thread).at.state ≢ Stopped
    → SourceRun m (history_of code s run ++ e ∷ []) → ⊥

abbrev pub StuckIsDeadlockIfTyped : Type 0
StuckIsDeadlockIfTyped = (m : Assignment) → IsSourceProgram m
    → (flat : FlatCode) → Flattens m flat → FitsMade (flat_of flat) → (code : Code) → IsCodeOf flat code
    → (x : Targets) (ls : Labels) → IsWellTyped x code ls → (s : Shape) → Fits code s → IsSmall code s
    → (run : List Turn) → CheckedRun code s run → Stuck code s run → IsDeadlock m code s run

-- so it is of the code that is built of a source
abbrev pub BuiltStuckIsDeadlockIfTyped : Type 0
BuiltStuckIsDeadlockIfTyped = (source : List ℕ) (built : Built) → IsBuilt source built
    → (x : Targets) (ls : Labels) → IsWellTyped x built.code ls
    → (s : Shape) → Fits built.code s → (run : List Turn) → CheckedRun built.code s run → Stuck built.code s run
    → IsDeadlock built.checked built.code s run
