-- The places of ports, and the events that lead from one to another.
use Rattle.std.specs.Prelude.{ℕ, ◌≡◌, List, [], ◌∷◌, ◌++◌}
use Rattle.sharc_word.specs.{declared.step.WordStep.WordStep, declared.step.WordEvent.WordEvent, Words.words_after_step}
use Rattle.sharc_word.specs.History.{MayFollow}

-- where a port is: the words that it has for itself, and the events that it has made
pub record PortState : Type 0 where
  pub words : List ℕ
  pub events : List WordEvent

-- the event of a step that this thread made
abbrev pub event_of : ℕ → WordStep → ℕ → WordEvent
event_of thread step result = record { thread = thread; step = step; result = result }

-- the events lead from one place to another, one after the other
abbrev pub Leads : (PortState → WordEvent → PortState → Type 0) → PortState → List WordEvent → PortState → Type 0
Leads leads from [] to = from ≡ to
Leads leads from (event ∷ events) to = (next : PortState) × leads from event next × Leads leads next events to

-- the place of a port that has its words for itself, and keeps no events
abbrev pub place_of_words : List ℕ → PortState
place_of_words words = record { words = words; events = [] }

-- in words that one port has for itself an event leads on where it can come next, whichever thread made it
pub record LeadsInWords (from : PortState) (event : WordEvent) (to : PortState) : Type 0 where
  pub may_follow : MayFollow from.words event
  pub to_is : to ≡ record { words = words_after_step from.words event.step; events = from.events }

-- the place of a port that shares its words with others, and keeps the events that it made
abbrev pub place_of_events : List WordEvent → PortState
place_of_events events = record { words = []; events = events }

-- over words that other ports change too an event leads on to the events with itself at their end
abbrev pub LeadsInEvents : PortState → WordEvent → PortState → Type 0
LeadsInEvents from event to = to ≡ record { words = from.words; events = from.events ++ event ∷ [] }
