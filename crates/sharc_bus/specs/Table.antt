-- What the proof alone needs: the table of a bus, and the parts of a history that its seats have.
use Rattle.std.specs.Prelude.{ℕ, suc, ◌≡◌, ◌<◌, List, [], ◌∷◌, length, map}
use Rattle.atomic_table.specs.{Table.Me, Seated.TableId}
use Rattle.sharc_word.specs.declared.step.WordEvent.{WordEvent}
use Rattle.sharc_bus.specs.{declared.rule.Part.Part, Rule.{IsAmong, unbegun, words_known}, Bus.{SeatView, RestView}}

-- a table with these words for this many ports, and with no slot
pub record IsBusTable (id : TableId) (opening : List ℕ) (ports : ℕ) : Type 0 where
  pub words_are : id.words ≡ length opening
  pub some_word : 0 < id.words
  pub no_slot : id.slots ≡ 0
  pub some_port : 0 < ports

-- a seat with one part of a history
abbrev pub seat_view : TableId → List Part → SeatView
seat_view bus [] = record { bus = bus; number = 0; events = [] }
seat_view bus (p ∷ ps) = record { bus = bus; number = p.number; events = p.events }

-- one of these is the part of a history that a seat has
pub record HasPart (number : ℕ) (events : List WordEvent) (parts : List Part) : Type 0 where
  pub part : Part
  pub among : IsAmong part parts
  pub number_is : part.number ≡ number
  pub events_are : part.events ≡ events

-- the parts of all these seats are among these
abbrev pub HasAll : List SeatView → List Part → Type 0
HasAll [] parts = Unit {0}
HasAll (s ∷ ss) parts = HasPart s.number s.events parts × HasAll ss parts

-- the seats of ports with these parts
abbrev pub seats_with : TableId → List Part → List SeatView
seats_with bus parts = map (λ p. record { bus = bus; number = p.number; events = p.events }) parts

-- ---- between two rounds
-- how many ports there are, by all parts and by the last
abbrev pub ports_of_all : List Part → ℕ
ports_of_all [] = 0
ports_of_all (p ∷ ps) = length ps

abbrev pub ports_of_last : List Part → ℕ
ports_of_last [] = 0
ports_of_last (p ∷ ps) = p.number

-- a seat has the parts of all ports, and one more, whose number is the number of ports
pub record IsRest (me : Me (Unit {0}) (List Part)) : Type 0 where
  pub parts : me.0 ≡ unbegun (words_known me.0) 0 (suc (ports_of_all me.0))
  pub none : me.1 ≡ []

-- a seat has that one more alone
pub record IsRound (me : Me (Unit {0}) (List Part)) : Type 0 where
  pub parts : me.0 ≡ unbegun (words_known me.0) (ports_of_last me.0) 1
  pub none : me.1 ≡ []

abbrev pub rest_view : TableId → List Part → RestView
rest_view bus parts = record { bus = bus; words = words_known parts; ports = ports_of_all parts }

abbrev pub round_view : TableId → List Part → RestView
round_view bus parts = record { bus = bus; words = words_known parts; ports = ports_of_last parts }
