-- References that are in no register and in no cell are among the references of the history: of held mutexes, and of
-- arguments that are not read yet.
use Rattle.std.specs.Prelude.{ℕ, ◌≢◌, ◌≡◌, List}
use Rattle.sharc_tree.specs.declared.event.CellAt.{CellAt}
use Rattle.sharc_mode.specs.Moded.{Assignment}
use Rattle.sharc_meaning.specs.References.{References, in_argument, in_mutex}
use Rattle.sharc_code.specs.{declared.code.Code.Code, declared.shape.Shape.Shape, Layout.Fits, Runs.Turn}
use Rattle.sharc_code.specs.Whole.{CheckedRun, place_after}
use Rattle.sharc_flat.specs.{Flattens.Flattens, declared.flat.Flat.{Flat as FlatCode}}
use Rattle.sharc_compile.specs.Made.{IsCodeOf}
use Rattle.sharc_invariant.specs.{Types.Targets, Labels.Labels, Typed.IsWellTyped, Words.argument_of, State.IsSmall}
use Rattle.sharc_invariant.specs.MachineInvariant.{log_refers}
use Rattle.sharc_history_laws.specs.{History.history_of, Stores.BeginsWith}

abbrev pub ArgumentsSee : Type 0
ArgumentsSee = (m : Assignment) (flat : FlatCode) → Flattens m flat → (code : Code) → IsCodeOf flat code
    → (x : Targets) (s : Shape) (ls : Labels) → IsWellTyped x code ls → Fits code s → IsSmall code s
    → (run : List Turn) → CheckedRun code s run
    → (u o : ℕ) → o ≢ 0 → argument_of code (place_after code s run) u ≡ o
    → References m (history_of code s run) o (in_argument u)

abbrev pub LogsSee : Type 0
LogsSee = (m : Assignment) (code : Code) (x : Targets) (s : Shape) (ls : Labels) → IsWellTyped x code ls → Fits code s
    → IsSmall code s → BeginsWith m.typed code
    → (run : List Turn) → CheckedRun code s run
    → (u word o : ℕ) → o ≢ 0 → log_refers (place_after code s run) u word ≡ o
    → (c : CellAt) × References m (history_of code s run) o (in_mutex c)
