-- Where the threads of a checked run stand in the source run that it performs.
use Rattle.std.specs.Prelude.{◌≡◌, ◌⊎◌, ℕ, List}
use Rattle.sharc_tree.specs.declared.event.CellAt.{CellAt}
use Rattle.sharc_mode.specs.Moded.{Assignment}
use Rattle.sharc_code.specs.{declared.code.Code.Code, declared.shape.Shape.Shape}
use Rattle.sharc_code.specs.{declared.state.TurnState.TheVariants.Ended, Layout.Fits, Machine.{Machine, instr_at}}
use Rattle.sharc_code.specs.{Runs.Turn, Whole.{CheckedRun, place_after}}
use Rattle.sharc_flat.specs.{declared.flat.Flat.{Flat as FlatCode}, Made.flat_of, Laws.FitsMade, Flattens.Flattens}
use Rattle.sharc_meaning.specs.{Events.{events_of, holds_mutex}, Meaning.{Asked, asks}, Obeys.History}
use Rattle.sharc_meaning.specs.{Runs.{Follows, answers_of}, State.ended}
use Rattle.sharc_compile.specs.{Made.IsCodeOf, Refused.WantsRefused}
use Rattle.sharc_accepted_laws.specs.Accepted.{IsSourceProgram}
use Rattle.sharc_invariant.specs.{Types.Targets, Labels.Labels, Typed.IsWellTyped, State.IsSmall}
use Rattle.sharc_history_laws.specs.History.{history_of}
use Rattle.sharc_wants_laws.specs.Wants.{IsNotThere, WantsBy}

-- with some fuel a thread that was started asks for exactly its events of the run, and comes to this
pub record StandsAt (m : Assignment) (R : History) (thread : ℕ) (come : Asked) : Type 0 where
  pub fuel : ℕ
  pub own : Follows m R fuel thread
  pub is : asks m own.function own.argument (answers_of (events_of thread own.after)) fuel ≡ come

-- There it wants what the instruction at the thread's place in the code is about, and what A1 to A4 refused, and has
-- ended where the thread has; and it holds the mutexes that the thread holds by its events of the run.
pub record IsPlaced (m : Assignment) (code : Code) (R : History) (thread : ℕ) (at : Machine) : Type 0 where
  pub come : Asked
  pub stands : StandsAt m R thread come
  pub next : WantsBy code at come.outcome (instr_at code at.at.pc)
  pub refused : WantsRefused code at come
  pub gone : at.at.state ≡ Ended → come.outcome ≡ ended
  pub mutexes : (mutex : CellAt) → holds_mutex (events_of thread R) mutex ≡ holds_mutex come.events mutex

-- so it is of each thread of every checked run of the code of a typed, well-moded program, if that code is typed; or
-- the thread has made no event and is at the code's first instruction
abbrev pub ThreadsStandIfTyped : Type 0
ThreadsStandIfTyped = (m : Assignment) → IsSourceProgram m
    → (flat : FlatCode) → Flattens m flat → FitsMade (flat_of flat) → (code : Code) → IsCodeOf flat code
    → (x : Targets) (ls : Labels) → IsWellTyped x code ls → (s : Shape) → Fits code s → IsSmall code s
    → (run : List Turn) → CheckedRun code s run → (thread : ℕ)
    → let at = (place_after code s run).threads thread in IsNotThere (history_of code s run) thread at
    ⊎ IsPlaced m code (history_of code s run) thread at
