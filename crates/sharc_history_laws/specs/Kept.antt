-- The references that the source events of a checked run of typed code tell of, the words tell of too: those of held
-- mutexes, of arguments that are not read yet, and of the pointer cells of live objects. And which cells are pointers.
use Rattle.std.specs.Prelude.{ℕ, ℤ, pos, ◌≡◌, ◌≢◌, ◌⊎◌, ◌+◌, ◌-◌, true, false, List, [], ◌∷◌, ◌++◌, Any, Some}
use Rattle.sharc_tree.specs.{declared.event.Act.TheVariants.Spawn, declared.event.CellAt.CellAt}
use Rattle.sharc_tree.specs.declared.event.Object.TheVariants.{Global as GlobalNumber, Made}
use Rattle.sharc_tree.specs.declared.event.SourceEvent.{SourceEvent}
use Rattle.sharc_code.specs.{declared.code.Code.Code, declared.code.Parameter.TheVariants.Reference}
use Rattle.sharc_code.specs.{declared.shape.Shape.Shape, Layout.Fits, Machine.function_of}
use Rattle.sharc_code.specs.{Ranges.{IsInGlobal, first_place as first_cell_of}, Runs.Turn}
use Rattle.sharc_code.specs.Whole.{CheckedRun, place_after}
use Rattle.sharc_ctype.specs.Resolved.{Resolution}
use Rattle.sharc_meaning.specs.{Events.{events_of, latest, makes}, References.refers}
use Rattle.sharc_meaning.specs.Store.{initial_value, is_live, is_locked, value_after}
use Rattle.sharc_invariant.specs.{Types.{Targets, global_field, is_pointer}, Labels.Labels, Typed.IsWellTyped}
use Rattle.sharc_invariant.specs.{Words.argument_of, World.ObjectState, State.IsSmall}
use Rattle.sharc_invariant.specs.{Opened.{first_world, first_place}, Objects.objects_after}
use Rattle.sharc_invariant.specs.MachineInvariant.{cell_refers, is_pointer_now, log_refers}
use Rattle.sharc_history_laws.specs.{History.history_of, SeenCells.{IsBeingFreed, IsCellIn}, Stores.BeginsWith}

-- where a mutex of an object is locked by the events, the held log of a thread refers to the object
abbrev pub LockedAreLogged : Type 0
LockedAreLogged = (x : Targets) (code : Code) (s : Shape) (ls : Labels) → IsWellTyped x code ls → Fits code s
    → IsSmall code s → (r : Resolution) → BeginsWith r code
    → (run : List Turn) → CheckedRun code s run
    → (c : CellAt) (o : ℕ) → c.object ≡ Made o → is_locked (history_of code s run) c ≡ true
    → (u : ℕ) × (word : ℕ) × (log_refers (place_after code s run) u word ≡ o)

-- where a thread has had no event, and a Spawn has answered its number that gave it a reference, its argument refers to
-- the object
abbrev pub SpawnedAreGiven : Type 0
SpawnedAreGiven = (x : Targets) (code : Code) (s : Shape) (ls : Labels) → IsWellTyped x code ls → Fits code s
    → IsSmall code s → (r : Resolution) → BeginsWith r code
    → (run : List Turn) → CheckedRun code s run → (u f o : ℕ) (v : ℤ) → events_of u (history_of code s run) ≡ []
    → Any (λ e. (e.act ≡ Spawn f v) × (e.answer ≡ pos u)) (history_of code s run)
    → (function_of code f).parameter ≡ Reference → refers o v ≡ true
    → argument_of code (place_after code s run) u ≡ o

-- where by the events a pointer cell of a live object refers to an object, it does so by the words, but while a Free
-- empties the cell's object
abbrev pub CellsAreKept : Type 0
CellsAreKept = (x : Targets) (code : Code) (s : Shape) (ls : Labels) → IsWellTyped x code ls → Fits code s
    → IsSmall code s → (r : Resolution) → BeginsWith r code
    → (run : List Turn) → CheckedRun code s run → (p i o : ℕ) (c : CellAt) → IsCellIn code c.object c.cell p i
    → let g = place_after code s run in let obj = objects_after code s ls (first_place code s)
    (first_world x).obj run in is_pointer_now x s g obj p i ≡ true
    → refers o (value_after r (history_of code s run) c) ≡ true
    → (cell_refers x s g obj p i ≡ o) ⊎ IsBeingFreed code g p

-- ---- which cells are pointers
-- where by the events a cell of an object that is made and live refers to an object, and it is one of the pointers of
-- what is made at the token of the object's last New, it is one by the table, of an object of this number that has it
abbrev pub MadePointersAreKept : Type 0
MadePointersAreKept = (x : Targets) (code : Code) (s : Shape) (ls : Labels) → IsWellTyped x code ls → Fits code s
    → IsSmall code s → (r : Resolution) → BeginsWith r code
    → (run : List Turn) → CheckedRun code s run
    → (p i o : ℕ) → let R = history_of code s run in is_live R (Made p) ≡ true
    → (e : SourceEvent) → latest (makes (Made p)) R ≡ Some e → x.is_made_pointer e.site.token i ≡ true
    → refers o (value_after r R (record { object = Made p; cell = i })) ≡ true
    → (p ≢ 0) × (is_pointer_now x s (place_after code s run)
    (objects_after code s ls (first_place code s) (first_world x).obj run) p i ≡ true)

-- so it is of each cell of a global that the table has as a pointer
abbrev pub GlobalPointersAreKept : Type 0
GlobalPointersAreKept = (x : Targets) (code : Code) (s : Shape) (ls : Labels) → IsWellTyped x code ls → Fits code s
    → IsSmall code s
    → (run : List Turn) → CheckedRun code s run
    → (k cell : ℕ) → let place = first_cell_of code.globals.items k + cell in IsInGlobal code.globals.items k place
    → is_pointer (global_field x (place - 2)).holds ≡ true
    → is_pointer_now x s (place_after code s run)
    (objects_after code s ls (first_place code s) (first_world x).obj run) 0 (place - 2) ≡ true

-- a cell that a global does not have is written by no event
abbrev pub OthersAreInitial : Type 0
OthersAreInitial = (x : Targets) (code : Code) (s : Shape) (ls : Labels) → IsWellTyped x code ls → Fits code s
    → IsSmall code s → (r : Resolution) → BeginsWith r code
    → (run : List Turn) → CheckedRun code s run
    → (k cell : ℕ) → (IsInGlobal code.globals.items k (first_cell_of code.globals.items k + cell) → ⊥)
    → value_after r (history_of code s run) (record { object = GlobalNumber k; cell = cell })
    ≡ initial_value r (GlobalNumber k)

-- ---- one event
-- the turn has this event, and an object that it makes was not there before
pub record Grows (code : Code) (s : Shape) (obj : ℕ → ObjectState) (one : Turn) (earlier : List Turn) : Type 0 where
  pub event : SourceEvent
  pub is : history_of code s (one ∷ earlier) ≡ history_of code s earlier ++ event ∷ []
  pub fresh : (p : ℕ) → p ≢ 0 → makes (Made p) event ≡ true → (obj p).live ≡ false

-- a turn has no event, or one
abbrev pub HistoriesGrow : Type 0
HistoriesGrow = (x : Targets) (code : Code) (s : Shape) (ls : Labels) → IsWellTyped x code ls → Fits code s
    → IsSmall code s
    → (one : Turn) (earlier : List Turn) → CheckedRun code s (one ∷ earlier)
    → (history_of code s (one ∷ earlier) ≡ history_of code s earlier)
    ⊎ Grows code s (objects_after code s ls (first_place code s) (first_world x).obj earlier) one earlier
