-- What a thread that waits asks for cannot come.
use Rattle.std.specs.Prelude.{◌≡◌, ℕ, List, Option, Some, None}
use Rattle.sharc_tree.specs.{declared.event.Act.Act, declared.event.SourceEvent.SourceEvent}
use Rattle.sharc_tree.specs.declared.event.Act.TheVariants as acts
use Rattle.sharc_ctype.specs.Resolved.{Resolution}
use Rattle.sharc_code.specs.{declared.code.Code.Code, declared.instr.Instr.Instr}
use Rattle.sharc_code.specs.{declared.instr.Instr.TheVariants.{Lock, Join, CondWait}, declared.shape.Shape.Shape}
use Rattle.sharc_code.specs.{Layout.Fits, Machine.{Machine, instr_at, int}, Runs.Turn, Says.cell_at}
use Rattle.sharc_code.specs.Whole.{CheckedRun, place_after, Waits, IsOn}
use Rattle.sharc_meaning.specs.Store.{MayCome}
use Rattle.sharc_invariant.specs.{Types.Targets, Labels.Labels, Typed.IsWellTyped, State.IsSmall}
use Rattle.sharc_history_laws.specs.{History.history_of, Stores.BeginsWith, Waiters.WaitsFollow}

-- the event of an instruction at which threads wait, where it goes on
abbrev pub act_awaited : Code → Machine → Instr → Option Act
act_awaited code m (Lock c site) = Some (acts.Lock (cell_at code m c))
act_awaited code m (Join r site) = Some (acts.Join (int m r))
act_awaited code m (CondWait c site) = Some (acts.Woken (cell_at code m c))
act_awaited code m _ = None

-- of a thread that waits at the end of a checked run of typed code it may not come after the source events of the run
abbrev pub AwaitedMayNotCome : Type 0
AwaitedMayNotCome = (x : Targets) (code : Code) (s : Shape) (ls : Labels) → IsWellTyped x code ls → Fits code s
    → IsSmall code s → WaitsFollow code → (r : Resolution) → BeginsWith r code
    → (run : List Turn) → CheckedRun code s run
    → (t : ℕ) → IsOn (place_after code s run) t → Waits code s (place_after code s run) t
    → (e : SourceEvent) → e.thread ≡ t
    → act_awaited code ((place_after code s run).threads t) (instr_at code ((place_after code s run).threads t).at.pc)
    ≡ Some e.act
    → MayCome r (history_of code s run) e e.act → ⊥
