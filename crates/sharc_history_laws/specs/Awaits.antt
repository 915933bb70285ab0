-- What threads wait for at the end of a run.
use Rattle.std.specs.Prelude.{◌≡◌, ◌≢◌, ◌<◌, ◌⊎◌, ℕ, pos, true, false, List, slice_index}
use Rattle.sharc_word.specs.declared.step.TheConstants.{THREADS}
use Rattle.sharc_code.specs.{declared.code.Code.Code, declared.instr.Cell.Cell, declared.instr.Instr.TheVariants.Lock}
use Rattle.sharc_code.specs.{declared.shape.Shape.Shape, Layout.{Fits, state_word}, Machine.{instr_at, word}, Runs.Turn}
use Rattle.sharc_code.specs.{Says.cell_at, Whole.{CheckedRun, IsOn, place_after}}
use Rattle.sharc_meaning.specs.{Events.{events_of, holds_mutex}, Store.went}
use Rattle.sharc_invariant.specs.{Types.Targets, Labels.Labels, Typed.IsWellTyped, State.IsSmall}
use Rattle.sharc_history_laws.specs.History.{history_of}

-- where a thread is to lock a mutex whose word is not 0, a thread holds that mutex by its events
abbrev pub AwaitedIsHeld : Type 0
AwaitedIsHeld = (x : Targets) (code : Code) (s : Shape) (ls : Labels) → IsWellTyped x code ls → Fits code s
    → IsSmall code s
    → (run : List Turn) → CheckedRun code s run → (t : ℕ) → IsOn (place_after code s run) t
    → (cell : Cell) (site : ℕ) → instr_at code ((place_after code s run).threads t).at.pc ≡ Lock cell site
    → slice_index (place_after code s run).words (word s ((place_after code s run).threads t) cell) ≢ 0
    → (u : ℕ) × (holds_mutex (events_of u (history_of code s run))
    (cell_at code ((place_after code s run).threads t) cell) ≡ true)

-- and a thread whose state word is 1 or 2, for which a Join waits, is not gone by the events
abbrev pub AwaitedIsNotGone : Type 0
AwaitedIsNotGone = (x : Targets) (code : Code) (s : Shape) (ls : Labels) → IsWellTyped x code ls → Fits code s
    → IsSmall code s
    → (run : List Turn) → CheckedRun code s run → (n : ℕ) → n < THREADS
    → (slice_index (place_after code s run).words (state_word n) ≡ 1)
    ⊎ (slice_index (place_after code s run).words (state_word n) ≡ 2)
    → went (history_of code s run) (pos n) ≡ false
