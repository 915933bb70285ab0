-- What the code's values stand for, and what it is that the code does a run.
use Rattle.std.specs.Prelude.{◌≡◌, ℕ, ℤ, not, List, [], ◌∷◌, ◌++◌, ◌+◌, ◌==◌, filter, reverse, flat_map, Result, Ok}
use Rattle.std.specs.Prelude.{Err, if◌then◌else◌}
use Rattle.sharc_tree.specs.{declared.event.Act.Act, declared.event.Act.TheVariants.{Write, Lock, Unlock}}
use Rattle.sharc_tree.specs.{declared.event.CellAt.CellAt, declared.event.CellMode.CellMode}
use Rattle.sharc_tree.specs.{declared.event.SourceEvent.SourceEvent, declared.token.Site.Site}
use Rattle.sharc_names.specs.Kinds.{Kind, is_pointer}
use Rattle.sharc_meaning.specs.{declared.given.GivenUp.GivenUp, declared.given.GivenUp.TheVariants.Replaced}
use Rattle.sharc_meaning.specs.{declared.variable.Variable.Variable, Cells.{Guard, mutex, behind, nothing}}
use Rattle.sharc_meaning.specs.{Events.{same_cell, held_mutexes}, Places.{StorePlace, variable, cell}}
use Rattle.sharc_meaning.specs.State.{Frame, State, Outcome, wants, stopped, spent, Out, go, over, Run, Step, ◌>>◌}
use Rattle.sharc_meaning.specs.State.{performs, moves, gives_up, done, held_by_frame}
use Rattle.sharc_ask.specs.declared.cells.Guard.{Guard as RustGuard}
use Rattle.sharc_ask.specs.{declared.places.LvaluePlace.{LvaluePlace as RustPlace}, declared.state.RunEnd.RunEnd}
use Rattle.sharc_ask.specs.declared.state.State.{State as RustState}
use Rattle.sharc_ask.specs.declared.cells.Guard.TheVariants as guards
use Rattle.sharc_ask.specs.declared.places.LvaluePlace.TheVariants as places
use Rattle.sharc_ask.specs.declared.state.RunEnd.TheVariants as ends

-- what the code knows of a thread on its way: all but the numbers of calls and the trace
pub record Known : Type 0 where
  pub variables : List Variable
  pub temporaries : List ℤ
  pub below : List ℤ
  pub answers : List ℤ
  pub events : List SourceEvent
  pub held : List CellAt
  pub fuel : ℕ
  pub given_up : List GivenUp

-- the callers hold these pointers
abbrev pub held_below : List Frame → List ℤ
held_below callers = flat_map held_by_frame (reverse callers)

abbrev pub known : State → Known
known s = record {
  variables = s.frame.variables;
  temporaries = s.frame.temporaries;
  below = held_below s.callers;
  answers = s.answers;
  events = s.events;
  held = held_mutexes s.events;
  fuel = s.fuel;
  given_up = s.given_up;
}

abbrev pub view_state : RustState → Known
view_state s = record {
  variables = s.frame.variables.items;
  temporaries = s.frame.temporaries.items;
  below = s.below.items;
  answers = s.answers.now;
  events = s.events.items;
  held = s.held.items;
  fuel = s.fuel;
  given_up = s.given_up.items;
}

-- an end of a run is the outcome that the code reports
abbrev pub IsEnd : RunEnd → Outcome → Type 0
IsEnd ends.Memory o = Unit {0}
IsEnd (ends.Wants e) o = o ≡ wants e
IsEnd (ends.Stopped trap site) o = o ≡ stopped trap site
IsEnd ends.Spent o = o ≡ spent

pub record Went {A : Type 0} (v : A) (k : Known) (out : Out A) : Type 0 where
  pub state : State
  pub is : out ≡ go v state
  pub looks : known state ≡ k

pub record Over {A : Type 0} (e : RunEnd) (k : Known) (out : Out A) : Type 0 where
  pub outcome : Outcome
  pub state : State
  pub is : out ≡ over outcome state
  pub ends_so : IsEnd e outcome
  pub looks : known state ≡ k

abbrev pub Ends : {A : Type 0} → Result A RunEnd → Known → Out A → Type 0
Ends (Ok v) k out = Went v k out
Ends (Err ends.Memory) k out = Unit {0}
Ends (Err e) k out = Over e k out

-- from whatever state looks so, the run comes to what the code answers, and leaves a state that looks like this
abbrev pub Does : {A : Type 0} → Known → Result A RunEnd → Known → Run A → Type 0
Does before result after m = (s : State) → known s ≡ before → Ends result after (m s)

-- the mutexes that are held after one more event
abbrev pub held_after : Act → List CellAt → List CellAt
held_after (Lock c) held = held ++ c ∷ []
held_after (Unlock c) held = filter (λ d. not (same_cell d c)) held
held_after _ held = held

-- how many variables come before the one of this token
abbrev pub place_of : List Variable → ℕ → ℕ
place_of [] token = 0
place_of (x ∷ rest) token = if x.token == token then 0 else place_of rest token + 1

-- ---- what the code's values of other types stand for

abbrev pub view_place : RustPlace → StorePlace
view_place (places.Variable x) = variable x
view_place (places.Cell o first c) = cell o first c

abbrev pub view_guard : RustGuard → Guard
view_guard (guards.Mutex c) = mutex c
view_guard (guards.Behind c) = behind c
view_guard guards.Nothing = nothing

-- likewise, where the code's value stands for one
abbrev pub EndsAs : {A B : Type 0} → (A → B) → Result A RunEnd → Known → Out B → Type 0
EndsAs f (Ok v) k out = Went (f v) k out
EndsAs f (Err ends.Memory) k out = Unit {0}
EndsAs f (Err e) k out = Over e k out

abbrev pub DoesAs : {A B : Type 0} → (A → B) → Known → Result A RunEnd → Known → Run B → Type 0
DoesAs f before result after m = (s : State) → known s ≡ before → EndsAs f result after (m s)

-- ---- parts of runs, as the code's functions have them

-- a value that a temporary holds goes to a cell
abbrev pub stored_in_cell : Site → Kind → CellAt → CellMode → ℤ → Step
stored_in_cell site kind c under v = do
  performs site (Write c under v)
  moves kind
  if is_pointer kind then gives_up (Replaced c ∷ []) else done
