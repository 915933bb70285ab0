-- The source events of each checked run of typed code may come one after the other: each finds what those before it
-- left.
use Rattle.std.specs.Prelude.{◌≡◌, ℕ, ◌-◌, Bool, true, false, List, slice_index}
use Rattle.sharc_tree.specs.{declared.event.Act.Act, declared.event.Act.TheVariants.{Woken, Signal}}
use Rattle.sharc_tree.specs.{declared.event.Object.TheVariants.Global, declared.event.SourceEvent.SourceEvent}
use Rattle.sharc_ctype.specs.Resolved.{Resolution}
use Rattle.sharc_code.specs.{declared.code.Code.Code, declared.shape.Shape.Shape, Arithmetic.int_of, Layout.Fits}
use Rattle.sharc_code.specs.{Ranges.IsInGlobal, Runs.Turn, Whole.CheckedRun}
use Rattle.sharc_meaning.specs.{Events.Stands, Obeys.History, Store.{initial_value, MayCome}}
use Rattle.sharc_invariant.specs.{Types.Targets, Labels.Labels, Typed.IsWellTyped, State.IsSmall}
use Rattle.sharc_history_laws.specs.History.{history_of}

-- the cells of the code's globals hold at first what the definitions of the program's globals say
abbrev pub BeginsWith : Resolution → Code → Type 0
BeginsWith r code = (g place : ℕ) → IsInGlobal code.globals.items g place
    → int_of (slice_index code.initial.items (place - 2)) ≡ initial_value r (Global g)

-- the event tells who waits at a condition
abbrev pub is_about_waiters : Act → Bool
is_about_waiters (Woken c) = true
is_about_waiters (Signal c) = true
is_about_waiters _ = false

-- each event may come after those before it, if it does not tell who waits
abbrev pub StoresAreLegal : Type 0
StoresAreLegal = (x : Targets) (code : Code) (s : Shape) (ls : Labels) → IsWellTyped x code ls → Fits code s
    → IsSmall code s → (r : Resolution) → BeginsWith r code
    → (run : List Turn) → CheckedRun code s run
    → (before : History) (e : SourceEvent) (after : History) → Stands (history_of code s run) before e after
    → is_about_waiters e.act ≡ false → MayCome r before e e.act
