-- What a caller reads: shared journals, seats and ports as contracts see them, and what a shared journal promises.
use Rattle.std.specs.Prelude.{ℕ, ◌≡◌, ◌<◌, List, [], ◌∷◌, ◌++◌, length, map, All, slice_index_or}
use Rattle.atomic_table.specs.Seated.{TableId}
use Rattle.sharc_word.specs.{declared.step.WordEvent.WordEvent, Words.words_after, History.{LegalHistory, events_of}}
use Rattle.sharc_record.specs.declared.journal.Journal.{Journal}

-- what distinguishes a shared journal from others, the journal that was taken in, and the number of its ports
pub record SharedView : Type 0 where
  pub id : TableId
  pub opened : Journal
  pub ports : ℕ

-- the shared journal of a seat, the number of its words, the number of its port, and the events that this port has made
pub record SeatView : Type 0 where
  pub id : TableId
  pub count : ℕ
  pub number : ℕ
  pub events : List WordEvent

-- a port of a shared journal, with a seat
pub record PortView : Type 0 where
  pub shared : SharedView
  pub seat : SeatView

-- all seats of the shared journal, each once, in the order of their numbers
pub record AreSeatsOf (shared : SharedView) (seats : List SeatView) : Type 0 where
  pub all : length seats ≡ shared.ports
  pub id_is : All (λ s. s.id ≡ shared.id) seats
  pub count_is : All (λ s. s.count ≡ length shared.opened.words) seats
  pub number_is : (n : ℕ) (d : SeatView) → n < length seats → (slice_index_or seats n d).number ≡ n

-- the lists of events of these seats
abbrev pub lists_of : List SeatView → List (List WordEvent)
lists_of seats = map (λ s. s.events) seats

-- The events that the journal has more than the opened one are a legal history from the opening words, which leaves its
-- words. Their part for each thread is the list at that number, and there is no event of another thread
pub record OneJournal (opened : Journal) (lists : List (List WordEvent)) (journal : Journal) : Type 0 where
  pub history : List WordEvent
  pub events_are : journal.events.items ≡ opened.events.items ++ history
  pub legal : LegalHistory opened.words history
  pub parts : (thread : ℕ) → events_of thread history ≡ slice_index_or lists thread []
  pub words_are : journal.words ≡ words_after opened.words history

-- what distinguishes a port from others, as numbers
abbrev pub name_of : SeatView → List ℕ
name_of seat = seat.number ∷ seat.count ∷ seat.id.words ∷ seat.id.slots ∷ seat.id.views_name ∷ seat.id.atom
    ∷ seat.id.block ∷ seat.id.offset ∷ seat.id.slot_names

-- a seat with the name of another is of the same shared journal, and has its number
abbrev pub NamesTell : Type 0
NamesTell = (one other : SeatView) → name_of one ≡ name_of other
    → (one.id ≡ other.id) × (one.count ≡ other.count) × (one.number ≡ other.number)
