-- Each thread of a checked run that has told an event has begun with a function that may be started, and by right: it
-- follows the source.
use Rattle.std.specs.Prelude.{ℕ, ℤ, ◌≡◌, ◌⊎◌, List, [], map}
use Rattle.sharc_tree.specs.declared.event.SourceEvent.{SourceEvent}
use Rattle.sharc_tree.specs.{declared.token.Site.Site, Low.IsLow, Placed.IsPlaced}
use Rattle.sharc_ctype.specs.Resolved.{IsResolved, Resolution, function_at}
use Rattle.sharc_mode.specs.Moded.{Assignment}
use Rattle.sharc_meaning.specs.{Events.events_of, Meaning.asks, Obeys.History, References.Begun}
use Rattle.sharc_meaning.specs.Runs.{Follows, IsFirst, IsNamedAt, IsSpawned, answers_of, by}
use Rattle.sharc_code.specs.{declared.code.Code.Code, declared.shape.Shape.Shape, Layout.Fits, Runs.Turn}
use Rattle.sharc_code.specs.Whole.{CheckedRun}
use Rattle.sharc_flat.specs.Correct.{MayStart}
use Rattle.sharc_invariant.specs.{Types.Targets, Labels.Labels, Typed.IsWellTyped, State.IsSmall}
use Rattle.sharc_history_laws.specs.History.{history_of}
use Rattle.sharc_compile_laws.specs.Threads.{TellsIn}

-- The function may be started; and it is main, for the first thread, or a Spawn before began the thread with it.
pub record BeginsByRight (m : Assignment) (before : List SourceEvent) (thread function : ℕ) (argument : ℤ) : Type 0
  where
    pub may : MayStart m function
    pub right : IsFirst m.typed thread function argument ⊎ IsSpawned before thread function argument

-- so it follows the source with each fuel with which it asks for its events
abbrev pub follows_with : (m : Assignment) (R : History) (thread : ℕ) (tells : TellsIn m R thread)
    → BeginsByRight m tells.before thread tells.function tells.argument → (fuel : ℕ)
    → map (by thread) (asks m tells.function tells.argument (answers_of (events_of thread tells.after)) fuel).events
    ≡ events_of thread tells.after → Follows m R fuel thread
follows_with m R thread tells begins fuel asked = record {
  function = tells.function;
  argument = tells.argument;
  before = tells.before;
  begins = tells.begins;
  after = tells.after;
  stands = tells.stands;
  own = tells.own;
  first = tells.first;
  act = tells.act;
  answer = tells.answer;
  site = tells.site;
  by_right = begins.right;
  asked = asked;
}

-- so it is of what a thread of typed code begins with
abbrev pub ThreadsBeginByRight : Assignment → Code → Type 0
ThreadsBeginByRight m code = (x : Targets) (s : Shape) (ls : Labels) → IsWellTyped x code ls → Fits code s
    → IsSmall code s → (run : List Turn) → CheckedRun code s run
    → (thread : ℕ) (tells : TellsIn m (history_of code s run) thread)
    → BeginsByRight m tells.before thread tells.function tells.argument

abbrev pub ThreadsHaveBegun : Assignment → Code → Type 0
ThreadsHaveBegun m code = (x : Targets) (s : Shape) (ls : Labels) → IsWellTyped x code ls → Fits code s → IsSmall code s
    → (run : List Turn) → CheckedRun code s run
    → (thread : ℕ) → let R = history_of code s run in (events_of thread R ≡ [])
    ⊎ ((b : Begun m R thread) × MayStart m b.own.function)

-- two functions at one name are one
abbrev pub AreOneByName : Resolution → Type 0
AreOneByName r = (n k : ℕ) (site : Site) → IsNamedAt (function_at r n) site → IsNamedAt (function_at r k) site → n ≡ k

abbrev pub FunctionsAreOneByName : Type 0
FunctionsAreOneByName = (r : Resolution) → IsResolved r → IsPlaced r.program → IsLow r.program → AreOneByName r
