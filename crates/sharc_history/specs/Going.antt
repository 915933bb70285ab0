-- What a run by a schedule keeps between two turns.
use Rattle.std.specs.Prelude.{ℕ, ◌≡◌, false, List, [], ◌∷◌, ◌++◌, map, reverse, length, Option, Some, None, IfSome}
use Rattle.std.specs.Option.{option_map}
use Rattle.sharc_code.specs.{declared.code.Code.Code, declared.shape.Shape.Shape, Machine.instr_at, Runs.Turn}
use Rattle.sharc_code.specs.{Says.elements_in, Whole.place_after}
use Rattle.sharc_schedule.specs.Schedule.{Stored}
use Rattle.sharc_seq.specs.{Run.AreChosen, Walk.StandsAt}
use Rattle.sharc_threads.specs.Ends.{is_enabled}
use Rattle.sharc_history.specs.{declared.next.Coming.Coming, declared.event.Event.Event, Origins.origin_at}
use Rattle.sharc_history.specs.{Told.{shown, told, told_of_event, comes, spoken, IsComing}, declared.going.Going.Going}
use Rattle.sharc_history.specs.History.{elements_of, elements_behind, told_events, origins_of, references_of}
use Rattle.sharc_history.specs.References.{deed_refers, next_refers, refers_at}

-- this run is there, with its events and the elements of its objects
pub record GoesAt (code : Code) (s : Shape) (turns : List Turn) (going : Going) : Type 0 where
  pub stands : StandsAt code s turns going.walk
  pub count : length going.schedule.items ≡ length turns
  pub events : map (told code) going.events.items ≡ map told_of_event (reverse (told_events code s turns))
  pub origins : map (λ (e : Event). e.origin) going.events.items ≡ reverse (origins_of code s turns)
  pub references : map (λ (e : Event). deed_refers e.deed) going.events.items ≡ reverse (references_of code s turns)
  pub elements : (number : ℕ) → elements_of going.made number ≡ elements_in (told_events code s turns) number

abbrev pub IsGoing : Code → Shape → Going → Type 0
IsGoing code s going = (turns : List Turn) × GoesAt code s turns going

-- this is what is coming of a thread there
pub record AwaitsAt (code : Code) (s : Shape) (turns : List Turn) (t : ℕ) (coming : Coming) : Type 0 where
  pub number : ((place_after code s turns).threads t).own.number ≡ t
  pub is : IsComing code (instr_at code ((place_after code s turns).threads t).at.pc)
      ((place_after code s turns).threads t) coming
  pub origin : coming.origin ≡ origin_at code ((place_after code s turns).threads t)
  pub refers : (found : ℕ)
      → next_refers coming.next found ≡ refers_at code ((place_after code s turns).threads t) found

-- an event more, and what it makes of the elements of objects
abbrev pub with_event : Option Event → List Event → List Event
with_event None events = events
with_event (Some e) events = events ++ e ∷ []

abbrev pub elements_by : Option Event → ℕ → ℕ → ℕ
elements_by None number earlier = earlier
elements_by (Some e) number earlier = elements_behind (shown e.deed) number earlier

-- the event of a turn of this thread was noted, if it was one, where this was coming and its step found this
pub record Tells (t : ℕ) (coming : Coming) (found : ℕ) (old new : Going) : Type 0 where
  pub walk : new.walk ≡ old.walk
  pub schedule : new.schedule ≡ old.schedule
  pub event : Option Event
  pub is : (code : Code)
      → option_map (told code) event ≡ comes code t coming found (elements_of old.made (spoken coming.next found))
  pub origin : IfSome event (λ e. e.origin ≡ coming.origin)
  pub refers : IfSome event (λ e. deed_refers e.deed ≡ next_refers coming.next found)
  pub events : new.events.items ≡ with_event event old.events.items
  pub elements : (number : ℕ) → elements_of new.made number ≡ elements_by event number (elements_of old.made number)

-- the run has one more turn, of this thread
pub record OneMore (code : Code) (s : Shape) (t : ℕ) (turns : List Turn) (going : Going) : Type 0 where
  pub one : Turn
  pub own : one.thread ≡ t
  pub goes : GoesAt code s (one ∷ turns) going

-- at this place is a run whose turns these places choose
pub record IsTraced (code : Code) (s : Shape) (places : List (ℕ × ℕ)) (limit : ℕ) (going : Going) : Type 0 where
  pub turns : List Turn
  pub goes : GoesAt code s turns going
  pub chosen : AreChosen (Stored places) code s limit turns

-- and no thread is enabled there
pub record IsOver (code : Code) (s : Shape) (places : List (ℕ × ℕ)) (limit : ℕ) (going : Going) : Type 0 where
  pub traced : IsTraced code s places limit going
  pub over : (t : ℕ) → is_enabled code s limit (place_after code s traced.turns) t ≡ false
