-- What a caller reads: buses, rests, seats and ports as contracts see them, and what a bus promises.
use Rattle.std.specs.Prelude.{ℕ, ◌≡◌, ◌<◌, List, [], ◌∷◌, length, map, All, slice_index_or}
use Rattle.atomic_table.specs.Seated.{TableId}
use Rattle.sharc_word.specs.{declared.step.WordEvent.WordEvent, Words.words_after, History.{LegalHistory, events_of}}

-- what distinguishes a bus from others, its opening words, and the number of its ports
pub record BusView : Type 0 where
  pub id : TableId
  pub opening : List ℕ
  pub ports : ℕ

-- the bus of a seat, the number of its port, and the events that this port has made in this round
pub record SeatView : Type 0 where
  pub bus : TableId
  pub number : ℕ
  pub events : List WordEvent

-- a port is on a bus, with a seat
pub record PortView : Type 0 where
  pub bus : BusView
  pub seat : SeatView

-- the bus of a rest or of a round, the words that are there or with which it began, and the number of ports
pub record RestView : Type 0 where
  pub bus : TableId
  pub words : List ℕ
  pub ports : ℕ

-- it is of this bus
pub record IsOf (bus : BusView) (rest : RestView) : Type 0 where
  pub bus_is : rest.bus ≡ bus.id
  pub ports_are : rest.ports ≡ bus.ports

-- all seats of the bus, each once, in the order of their numbers
pub record AreSeatsOf (bus : BusView) (seats : List SeatView) : Type 0 where
  pub all : length seats ≡ bus.ports
  pub bus_is : All (λ s. s.bus ≡ bus.id) seats
  pub number_is : (n : ℕ) (d : SeatView) → n < length seats → (slice_index_or seats n d).number ≡ n

-- the lists of events of these seats
abbrev pub lists_of : List SeatView → List (List WordEvent)
lists_of seats = map (λ s. s.events) seats

-- There is one legal history from these words, which leaves these words. Its part for each thread is the list at that
-- number, and it has no event of another thread
pub record OneHistory (opening : List ℕ) (lists : List (List WordEvent)) (words : List ℕ) : Type 0 where
  pub history : List WordEvent
  pub legal : LegalHistory opening history
  pub parts : (thread : ℕ) → events_of thread history ≡ slice_index_or lists thread []
  pub words_are : words ≡ words_after opening history

-- what distinguishes a port from others, as numbers
abbrev pub name_of : SeatView → List ℕ
name_of seat = seat.number ∷ seat.bus.words ∷ seat.bus.slots ∷ seat.bus.views_name ∷ seat.bus.atom ∷ seat.bus.block
    ∷ seat.bus.offset ∷ seat.bus.slot_names

-- a seat with the name of another is of the same bus, and has its number
abbrev pub NamesTell : Type 0
NamesTell = (one other : SeatView) → name_of one ≡ name_of other → (one.bus ≡ other.bus) × (one.number ≡ other.number)
