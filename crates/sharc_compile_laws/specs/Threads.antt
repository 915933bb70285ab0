-- What a thread reports in a checked run of the code of a program, in any interleaving, is what the program asks for by
-- the answers of these events.
use Rattle.std.specs.Prelude.{ℕ, ℤ, pos, ◌≡◌, ◌⊎◌, List, [], ◌∷◌, map, reverse}
use Rattle.sharc_tree.specs.{declared.event.Act.TheVariants.Started, declared.event.SourceEvent.SourceEvent}
use Rattle.sharc_ctype.specs.Resolved.{function_at}
use Rattle.sharc_mode.specs.Moded.{Assignment}
use Rattle.sharc_meaning.specs.{Events.{Stands, events_of}, Meaning.asks, Runs.{IsNamedAt, answers_of, by}}
use Rattle.sharc_code.specs.{declared.code.Code.Code, declared.shape.Shape.Shape, Path.begun}
use Rattle.sharc_code.specs.Runs.{Said, Turn, said_by, turns_of}
use Rattle.sharc_code.specs.Whole.{CheckedRun, Erase}
use Rattle.sharc_flat.specs.{declared.flat.Flat.{Flat as FlatCode}, Made.flat_of, Correct.{MayStart, ProgramSuits}}
use Rattle.sharc_flat.specs.{Flattens.Flattens, Laws.FitsMade}
use Rattle.sharc_compile.specs.{Consistent.IsConsistent, OfRuns.{elements_before, founds_of, told_in}, Made.IsCodeOf}

-- ---- whose events they are
abbrev pub AreOfThread : (thread : ℕ) → List SourceEvent → Type 0
AreOfThread thread [] = Unit {0}
AreOfThread thread (e ∷ es) = (e.thread ≡ thread) × AreOfThread thread es

-- the first event of a thread in a history, and those that it has after it
pub record IsFirstOf (thread : ℕ) (R : List SourceEvent) (e : SourceEvent) (later : List SourceEvent) : Type 0 where
  pub before : List SourceEvent
  pub after : List SourceEvent
  pub stands : Stands R before e after
  pub first : events_of thread before ≡ []
  pub rest : events_of thread after ≡ later

-- Where all that each thread says is its own, the events of a thread in the history are what it says; and the first of
-- its events stands somewhere.
pub record OwnAreTold : Type 0 where
  pub own : (says : List (Said SourceEvent)) → ((t : ℕ) → AreOfThread t (reverse (told_in (said_by t says))))
      → (t : ℕ) → events_of t (reverse (told_in says)) ≡ reverse (told_in (said_by t says))
  pub first : (t : ℕ) (R : List SourceEvent) (e : SourceEvent) (later : List SourceEvent) → events_of t R ≡ e ∷ later
      → IsFirstOf t R e later

-- ---- what a thread reports
-- It begins with the Started of a function, at the name of that; and with some fuel the program asks for exactly the
-- events after it, if the function may be started. Nothing is said of who started it.
pub record TellsIn (m : Assignment) (R : List SourceEvent) (thread : ℕ) : Type 0 where
  pub function : ℕ
  pub argument : ℤ
  pub before : List SourceEvent
  pub begins : SourceEvent
  pub after : List SourceEvent
  pub stands : Stands R before begins after
  pub own : begins.thread ≡ thread
  pub first : events_of thread before ≡ []
  pub act : begins.act ≡ Started argument
  pub answer : begins.answer ≡ pos 0
  pub site : IsNamedAt (function_at m.typed function) begins.site
  pub asked : MayStart m function
      → (fuel : ℕ) × (map (by thread) (asks m function argument (answers_of (events_of thread after)) fuel).events
      ≡ events_of thread after)

-- a thread reports nothing, or this; where the results of the paths of all threads are consistent
abbrev pub RunsTell : Assignment → Code → Type 0
RunsTell m code = (s : Shape) (run : List Turn) → CheckedRun code s run
    → ((thread : ℕ)
    → IsConsistent code s (begun code s thread) (elements_before code s thread run) (founds_of (turns_of thread run)))
    → (thread : ℕ) → let R = reverse (told_in (Erase code s run)) in (events_of thread R ≡ []) ⊎ TellsIn m R thread

abbrev pub ThreadsTell : Type 0
ThreadsTell = (m : Assignment) → ProgramSuits m → (flat : FlatCode) → Flattens m flat → FitsMade (flat_of flat)
    → (code : Code) → IsCodeOf flat code → RunsTell m code
