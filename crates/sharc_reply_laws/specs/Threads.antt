-- How far a thread of a checked run has come in the source, by its events of the run.
use Rattle.std.specs.Prelude.{◌≡◌, ◌⊎◌, ◌+◌, ◌*◌, ◌<◌, ◌≤◌, ℕ, List, []}
use Rattle.sharc_mode.specs.Moded.{Assignment}
use Rattle.sharc_meaning.specs.{Events.events_of, Meaning.{Asked, asks}, Obeys.History, Runs.{Follows, answers_of}}
use Rattle.sharc_meaning.specs.State.{spent}
use Rattle.sharc_code.specs.{declared.code.Code.Code, declared.shape.Shape.Shape, Layout.Fits, Machine.Machine}
use Rattle.sharc_code.specs.{Paced.paced_in, Path.begun, Runs.{Turn, turns_of}, Whole.{CheckedRun, place_after}}
use Rattle.sharc_compile.specs.{OfRuns.founds_of, Source.IsOverAs}
use Rattle.sharc_compile_laws.specs.Paths.{OfTyped}
use Rattle.sharc_invariant.specs.{Types.Targets, Labels.Labels, Typed.IsWellTyped, State.IsSmall}
use Rattle.sharc_history_laws.specs.History.{history_of}

-- what its function, with its argument and the answers of its own events, has come to with this fuel
abbrev pub came_to : {m : Assignment} {R : History} {fuel thread : ℕ} → Follows m R fuel thread → ℕ → Asked
came_to {m} {R} {fuel} {thread} own few = asks m own.function own.argument (answers_of (events_of thread own.after)) few

-- the turns of the thread that count for its pace
abbrev pub counted_turns : Code → Shape → List Turn → ℕ → ℕ
counted_turns code s run thread = paced_in code s (begun code s thread) (founds_of (turns_of thread run))

-- It has told nothing: it is before the code's first instruction, or has just begun with it.
pub record HasNotBegun (R : History) (thread : ℕ) (at : Machine) (turns : ℕ) : Type 0 where
  pub nothing : events_of thread R ≡ []
  pub first : at.at.pc ≡ 0
  pub pace : turns ≤ 1

-- With some fuel it has asked for exactly its events of the run. There it has ended where the thread has, and is
-- stopped by the same X at the same site, or, of X7 to X9 and A1 to A4, wants its next event at the site of the stop.
-- And it keeps the pace: with fuel for fewer statements and expressions than a 64th of the turns that count, but 64, it
-- has not come so far.
pub record HasBegun (m : Assignment) (code : Code) (R : History) (thread : ℕ) (at : Machine) (turns : ℕ) : Type 0 where
  pub fuel : ℕ
  pub own : Follows m R fuel thread
  pub over : IsOverAs code (came_to own fuel).outcome at.at.state at.own.stop
  pub pace : (few : ℕ) → 64 * few + 64 < turns → (came_to own few).outcome ≡ spent

abbrev pub ThreadTells : Assignment → Code → Shape → List Turn → ℕ → Type 0
ThreadTells m code s run thread =
    let R = history_of code s run in let at = (place_after code s run).threads thread
    in let turns = counted_turns code s run thread in
    HasNotBegun R thread at turns ⊎ HasBegun m code R thread at turns

-- so it is of each thread of each checked run of the code of a typed, well-moded program, where that code is typed
abbrev pub ThreadsTell : Assignment → Code → Type 0
ThreadsTell m code = (x : Targets) (s : Shape) (ls : Labels) → IsWellTyped x code ls → Fits code s → IsSmall code s
    → (run : List Turn) → CheckedRun code s run
    → (thread : ℕ) → ThreadTells m code s run thread

abbrev pub TypedThreadsTell : Type 0
TypedThreadsTell = OfTyped ThreadsTell
