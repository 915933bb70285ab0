-- What the pointer cells of a run refer to, among the references of its history.
use Rattle.std.specs.Prelude.{◌≡◌, ◌≢◌, ◌⊎◌, ℕ, true, false, List}
use Rattle.sharc_tree.specs.declared.event.Object.TheVariants.{Global as GlobalNumber, Made}
use Rattle.sharc_tree.specs.declared.event.SourceEvent.{SourceEvent}
use Rattle.sharc_mode.specs.Moded.{Assignment}
use Rattle.sharc_meaning.specs.References.{References, in_cell, refers, is_taken_to_free}
use Rattle.sharc_meaning.specs.Store.{is_live, value_after}
use Rattle.sharc_code.specs.{declared.code.Code.Code, declared.shape.Shape.Shape, Layout.Fits, Machine.Machine}
use Rattle.sharc_code.specs.{Runs.{Turn, Global}, Whole.{CheckedRun, place_after}}
use Rattle.sharc_invariant.specs.{Labels.Labels, Typed.IsWellTyped, State.IsSmall, Opened.{first_world, first_place}}
use Rattle.sharc_invariant.specs.{Objects.objects_after, MachineInvariant.cell_refers}
use Rattle.sharc_history_laws.specs.{History.history_of, SeenCells.IsBeingFreed, Stores.BeginsWith}
use Rattle.sharc_accepted_laws.specs.{TargetLaws.HasTables, Targets.targets_of}

-- Cell i of object p, which is made. By the events the object is live and the cell refers to object n; that is one of
-- the references, if no `free` has taken the object or it is that object itself.
pub record RefersFromMade (m : Assignment) (R : List SourceEvent) (p i n : ℕ) : Type 0 where
  pub some : p ≢ 0
  pub live : is_live R (Made p) ≡ true
  pub refers_there : refers n (value_after m.typed R (record { object = Made p; cell = i })) ≡ true
  pub among : (p ≡ n) ⊎ (is_taken_to_free R p ≡ false)
      → References m R n (in_cell (record { object = Made p; cell = i }))

-- a cell of a global is among the references, as one of an object that is made may be, but where a thread is in the
-- middle of a Free of its object
pub data IsSeenInCell (m : Assignment) (code : Code) (g : Global Machine) (R : List SourceEvent)
    (p i n : ℕ) : Type 0 where
  in_global : (k cell : ℕ) → References m R n (in_cell (record { object = GlobalNumber k; cell = cell }))
      → IsSeenInCell m code g R p i n
  in_made : RefersFromMade m R p i n → IsSeenInCell m code g R p i n
  in_freed : IsBeingFreed code g p → IsSeenInCell m code g R p i n

-- so it is of each cell that refers to an object at a place of a checked run of code that is typed by the program's
-- targets
abbrev pub CellsSee : Type 0
CellsSee = (m : Assignment) (code : Code) (s : Shape) (ls : Labels) → HasTables m code
    → IsWellTyped (targets_of m) code ls → Fits code s → IsSmall code s → BeginsWith m.typed code
    → (run : List Turn) → CheckedRun code s run → (p i n : ℕ) → n ≢ 0
    → cell_refers (targets_of m) s (place_after code s run)
    (objects_after code s ls (first_place code s) (first_world (targets_of m)).obj run) p i ≡ n
    → IsSeenInCell m code (place_after code s run) (history_of code s run) p i n
