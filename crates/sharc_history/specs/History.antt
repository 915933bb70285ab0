-- The source events of a run by a schedule.
use Rattle.std.specs.Prelude.{ℕ, ◌≡◌, ◌==◌, false, List, [], ◌∷◌, map, reverse, nat_eq, Option, Some, None}
use Rattle.std.specs.Prelude.{if◌then◌else◌}
use Rattle.std.specs.{HashMap.{get, HashMap}, Option.unwrap_or}
use Rattle.sharc_tree.specs.declared.event.SourceEvent.{SourceEvent}
use Rattle.sharc_code.specs.{declared.code.Code.Code, declared.shape.Shape.Shape, Runs.{Turn, result_of, told_by}}
use Rattle.sharc_code.specs.Says.{number_of}
use Rattle.sharc_code.specs.Whole.{CheckedRun, Erase, one_thread, place_after}
use Rattle.sharc_schedule.specs.Schedule.{Stored}
use Rattle.sharc_seq.specs.Run.{AreChosen}
use Rattle.sharc_threads.specs.Ends.{is_enabled}
use Rattle.sharc_history.specs.{declared.cells.Origin.Origin, declared.event.Event.Event, Origins.origin_at}
use Rattle.sharc_history.specs.References.{deed_refers, refers_at}
use Rattle.sharc_history.specs.{Told.{Bare, New, told, told_of_event}, declared.history.History.History, Lasts.AreLasts}

-- ---- the elements of objects
abbrev pub elements_of : {S : Type 0} → HashMap ℕ ℕ S → ℕ → ℕ
elements_of made number = unwrap_or (get nat_eq made number) 0

-- behind an event
abbrev pub elements_behind : Bare → ℕ → ℕ → ℕ
elements_behind (New elements answer) number earlier = if number_of answer == number then elements else earlier
elements_behind _ number earlier = earlier

-- ---- the events
-- those that a run reports, the newest first
abbrev pub told_events : Code → Shape → List Turn → List SourceEvent
told_events code s turns = map (λ said. said.told) (Erase code s turns)

-- with what is shown of a turn, if it is one
abbrev pub with_shown : {A : Type 0} → Option SourceEvent → A → List A → List A
with_shown None shown earlier = earlier
with_shown (Some e) shown earlier = shown ∷ earlier

-- where in the source they are
abbrev pub origins_of : Code → Shape → List Turn → List Origin
origins_of code s [] = []
origins_of code s (one ∷ turns) =
    with_shown (told_by (one_thread code s) (Erase code s turns) (place_after code s turns) one)
    (origin_at code ((place_after code s turns).threads one.thread)) (origins_of code s turns)

-- to which object each of them refers
abbrev pub references_of : Code → Shape → List Turn → List (Option ℕ)
references_of code s [] = []
references_of code s (one ∷ turns) =
    with_shown (told_by (one_thread code s) (Erase code s turns) (place_after code s turns) one)
    (refers_at code ((place_after code s turns).threads one.thread) (result_of one.event)) (references_of code s turns)

-- ---- what is computed of a run
-- its events in their order, where in the source each of them is and to which object it refers, and the threads that
-- wait or were stopped at its end
pub record IsAccountOf (code : Code) (s : Shape) (turns : List Turn) (h : History) : Type 0 where
  pub events : map (told code) h.events.items ≡ map told_of_event (reverse (told_events code s turns))
  pub origins : map (λ (e : Event). e.origin) h.events.items ≡ reverse (origins_of code s turns)
  pub references : map (λ (e : Event). deed_refers e.deed) h.events.items ≡ reverse (references_of code s turns)
  pub lasts : AreLasts code s (place_after code s turns) h.lasts.items

-- of a checked run whose turns these places choose, and which ends where no thread may make a turn
pub record IsHistory (code : Code) (s : Shape) (places : List (ℕ × ℕ)) (limit : ℕ) (h : History) : Type 0 where
  pub turns : List Turn
  pub checked : CheckedRun code s turns
  pub chosen : AreChosen (Stored places) code s limit turns
  pub over : (t : ℕ) → is_enabled code s limit (place_after code s turns) t ≡ false
  pub account : IsAccountOf code s turns h
