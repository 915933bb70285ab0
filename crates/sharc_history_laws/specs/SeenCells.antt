-- What the pointer cells of a checked run of typed code refer to, by the events.
use Rattle.std.specs.Prelude.{◌≡◌, ◌≢◌, ◌⊎◌, ℕ, ◌+◌, Bool, true, false, List}
use Rattle.sharc_tree.specs.{declared.event.CellAt.CellAt, declared.event.Object.Object}
use Rattle.sharc_tree.specs.declared.event.Object.TheVariants.{Global as GlobalNumber, Made}
use Rattle.sharc_ctype.specs.Resolved.{Resolution}
use Rattle.sharc_code.specs.{declared.code.Code.Code, declared.instr.Instr.TheVariants.Free, declared.shape.Shape.Shape}
use Rattle.sharc_code.specs.declared.state.Stage.{Stage}
use Rattle.sharc_code.specs.declared.state.Stage.TheVariants.{Empties, Lowers, FreeLooks, FreeClears, Uncounts}
use Rattle.sharc_code.specs.{Layout.Fits, Machine.{Machine, instr_at, ref}, Path.may_go}
use Rattle.sharc_code.specs.{Ranges.{IsInGlobal, first_place as first_cell_of}, Runs.{Turn, Global}}
use Rattle.sharc_code.specs.Whole.{CheckedRun, place_after}
use Rattle.sharc_meaning.specs.{Obeys.History, References.refers, Store.{is_live, value_after}}
use Rattle.sharc_invariant.specs.{Types.{Targets, field_in, global_field, is_pointer}, Labels.Labels, Typed.IsWellTyped}
use Rattle.sharc_invariant.specs.{World.ObjectState, State.IsSmall, Opened.{first_world, first_place}}
use Rattle.sharc_invariant.specs.{Objects.objects_after, MachineInvariant.cell_refers}
use Rattle.sharc_history_laws.specs.{History.history_of, Stores.BeginsWith}

-- the cell of the source is number i of object p of the machine: object 0 has the cells of all globals, from granule 1
-- on
abbrev pub IsCellIn : Code → Object → ℕ → ℕ → ℕ → Type 0
IsCellIn code (Made n) cell p i = (n ≡ p) × (p ≢ 0) × (cell ≡ i)
IsCellIn code (GlobalNumber g) cell p i =
    (p ≡ 0) × IsInGlobal code.globals.items g (i + 2) × (i + 2 ≡ first_cell_of code.globals.items g + cell)

abbrev pub IsLiveBy : History → Object → Type 0
IsLiveBy R (Made n) = is_live R (Made n) ≡ true
IsLiveBy R (GlobalNumber g) = Unit {0}

-- a Free has begun to clear the object's cells, and the object is not gone
abbrev pub is_clearing : Stage → Bool
is_clearing (Empties i all) = true
is_clearing (Lowers i all found) = true
is_clearing (FreeLooks done all) = true
is_clearing (FreeClears done all seen) = true
is_clearing (Uncounts all) = true
is_clearing _ = false

-- a thread that goes on is in the middle of a Free of this object
pub record IsBeingFreed (code : Code) (g : Global Machine) (p : ℕ) : Type 0 where
  pub some : p ≢ 0
  pub thread : ℕ
  pub started : g.started thread ≡ true
  pub on : may_go (g.threads thread).at.state ≡ true
  pub register : ℕ
  pub layout : ℕ
  pub site : ℕ
  pub is_free : instr_at code (g.threads thread).at.pc ≡ Free register layout site
  pub object : ref (g.threads thread) register ≡ p
  pub clearing : is_clearing (g.threads thread).own.stage ≡ true

-- by the events the cell is one of a live object and refers to object o; but they do not tell that a Free empties the
-- cells of its object
pub record RefersBy (r : Resolution) (code : Code) (g : Global Machine) (R : History) (c : CellAt)
    (p o : ℕ) : Type 0 where
  pub live : IsLiveBy R c.object
  pub refers_there : (refers o (value_after r R c) ≡ true) ⊎ IsBeingFreed code g p

-- the cell is a pointer by the table, and so it is with the cell of the source
pub record CellIsSeen (r : Resolution) (x : Targets) (code : Code) (g : Global Machine) (obj : ℕ → ObjectState)
    (R : History) (p i o : ℕ) : Type 0 where
  pub pointer : is_pointer (field_in x (obj p).ty i).holds ≡ true
  pub global : p ≡ 0 → is_pointer (global_field x i).holds ≡ true
  pub by_events : (c : CellAt) → IsCellIn code c.object c.cell p i → RefersBy r code g R c p o

-- so it is of each cell that refers to an object by the words
abbrev pub CellsAreSeen : Type 0
CellsAreSeen = (x : Targets) (code : Code) (s : Shape) (ls : Labels) → IsWellTyped x code ls → Fits code s
    → IsSmall code s → (r : Resolution) → BeginsWith r code
    → (run : List Turn) → CheckedRun code s run → (p i o : ℕ) → o ≢ 0
    → cell_refers x s (place_after code s run)
    (objects_after code s ls (first_place code s) (first_world x).obj run) p i ≡ o
    → CellIsSeen r x code (place_after code s run)
    (objects_after code s ls (first_place code s) (first_world x).obj run) (history_of code s run) p i o
