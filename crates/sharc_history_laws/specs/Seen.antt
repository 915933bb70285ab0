-- What the source events of a checked run of typed code tell of references that are in no register and in no cell: of
-- held mutexes, and of arguments that are not read yet.
use Rattle.std.specs.Prelude.{ℕ, ◌≡◌, ◌≢◌, ◌<◌, ◌^◌, true, List, [], ◌++◌}
use Rattle.sharc_tree.specs.{declared.event.CellAt.CellAt, declared.event.Object.TheVariants.Made}
use Rattle.sharc_code.specs.{declared.code.Code.Code, declared.code.Parameter.TheVariants.Reference}
use Rattle.sharc_code.specs.{declared.shape.Shape.Shape, Layout.Fits, Machine.function_of, Runs.Turn, Says.reference}
use Rattle.sharc_code.specs.Whole.{CheckedRun, place_after}
use Rattle.sharc_ctype.specs.Resolved.{Resolution}
use Rattle.sharc_meaning.specs.{Events.events_of, Obeys.History, Runs.IsSpawned, Store.is_locked}
use Rattle.sharc_invariant.specs.{Types.Targets, Labels.Labels, Typed.IsWellTyped, Words.argument_of, State.IsSmall}
use Rattle.sharc_invariant.specs.MachineInvariant.{log_refers}
use Rattle.sharc_history_laws.specs.{History.history_of, Stores.BeginsWith}

-- the turns of a checked run up to some turn are a checked run
abbrev pub RunsBegin : Type 0
RunsBegin = (code : Code) (s : Shape) (later earlier : List Turn) → CheckedRun code s (later ++ earlier)
    → CheckedRun code s earlier

-- where the held log of a thread refers to an object, a mutex of that object is locked by the events
abbrev pub LogsAreLocked : Type 0
LogsAreLocked = (x : Targets) (code : Code) (s : Shape) (ls : Labels) → IsWellTyped x code ls → Fits code s
    → IsSmall code s → (r : Resolution) → BeginsWith r code
    → (run : List Turn) → CheckedRun code s run
    → (u word o : ℕ) → o ≢ 0 → log_refers (place_after code s run) u word ≡ o
    → (c : CellAt) × (c.object ≡ Made o) × (is_locked (history_of code s run) c ≡ true)

-- The thread has had no event, and a Spawn has answered its number that gave it a function with a reference to the
-- object for its argument.
pub record IsGivenTo (code : Code) (R : History) (u o : ℕ) : Type 0 where
  pub number : o < 2 ^ 32
  pub unread : events_of u R ≡ []
  pub function : ℕ
  pub elements : ℕ
  pub takes : (function_of code function).parameter ≡ Reference
  pub spawned : IsSpawned R u function (reference o elements)

-- so it is of a thread whose argument, not read yet, refers to an object
abbrev pub ArgumentsAreGiven : Type 0
ArgumentsAreGiven = (x : Targets) (code : Code) (s : Shape) (ls : Labels) → IsWellTyped x code ls → Fits code s
    → IsSmall code s
    → (run : List Turn) → CheckedRun code s run
    → (u o : ℕ) → o ≢ 0 → argument_of code (place_after code s run) u ≡ o → IsGivenTo code (history_of code s run) u o
