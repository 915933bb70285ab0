-- Who waits at a condition is what the source events tell, where a thread that enters waits next.
use Rattle.std.specs.Prelude.{◌≡◌, ℕ, ◌+◌, List}
use Rattle.sharc_tree.specs.declared.event.SourceEvent.{SourceEvent}
use Rattle.sharc_ctype.specs.Resolved.{Resolution}
use Rattle.sharc_code.specs.{declared.code.Code.Code, declared.instr.Cell.Cell}
use Rattle.sharc_code.specs.{declared.instr.Instr.TheVariants.{CondEnter, CondWait, Unlock}, declared.shape.Shape.Shape}
use Rattle.sharc_code.specs.{Layout.Fits, Machine.instr_at, Runs.Turn, Whole.CheckedRun}
use Rattle.sharc_meaning.specs.{Events.Stands, Obeys.History, Store.MayCome}
use Rattle.sharc_invariant.specs.{Types.Targets, Labels.Labels, Typed.IsWellTyped, State.IsSmall}
use Rattle.sharc_history_laws.specs.{History.history_of, Stores.BeginsWith}

-- behind this place a mutex is unlocked, and behind that the thread waits at the cell
pub record IsWait (code : Code) (pc : ℕ) (c : Cell) : Type 0 where
  pub register : ℕ
  pub mutex : Cell
  pub unlock_site : ℕ
  pub wait_site : ℕ
  pub unlocks : instr_at code (pc + 1) ≡ Unlock register mutex unlock_site
  pub waits : instr_at code (pc + 1 + 1) ≡ CondWait c wait_site

-- so it is behind each CondEnter
abbrev pub WaitsFollow : Code → Type 0
WaitsFollow code = (pc site : ℕ) (c : Cell) → instr_at code pc ≡ CondEnter c site → IsWait code pc c

-- then each source event of a checked run of typed code may come after those before it
abbrev pub EventsMayCome : Type 0
EventsMayCome = (x : Targets) (code : Code) (s : Shape) (ls : Labels) → IsWellTyped x code ls → Fits code s
    → IsSmall code s → WaitsFollow code → (r : Resolution) → BeginsWith r code
    → (run : List Turn) → CheckedRun code s run → (before : History) (e : SourceEvent) (after : History)
    → Stands (history_of code s run) before e after → MayCome r before e e.act
