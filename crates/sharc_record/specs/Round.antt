-- What a round over a journal makes of the threads, of the words and of the events.
use Rattle.std.specs.Prelude.{ℕ, ◌≡◌, ◌≤◌, ◌++◌, List, length, Option, Some, None, slice_index_or}
use Rattle.sharc_word.specs.declared.step.WordEvent.{WordEvent}
use Rattle.sharc_code.specs.{declared.code.Code.Code, declared.shape.Shape.Shape, Layout.words_of}
use Rattle.sharc_code.specs.{Runs.{Turn, IsRun, opening_of, word_events}, Opening.opening_words}
use Rattle.sharc_code.specs.Whole.{one_thread, bounds, place_after}
use Rattle.sharc_record.specs.{Shared.{SharedView, SeatView}, declared.journal.TheConstants.QUANTUM}
use Rattle.sharc_record.specs.declared.round.Rounds.{Rounds}
use Rattle.sharc_threads.specs.Seats.{AreSeats}
use Rattle.sharc_rounds.specs.{declared.hand.Hand.Hand, declared.lent.Lent.Lent, declared.worker.Worker.Worker}
use Rattle.sharc_rounds.specs.Round.{Seat, MadeQuantumAt, MayTurnAt, MadeRound}

-- ---- one thread
-- a hand at this journal may make a quantum
pub record MayRun (code : Code) (s : Shape) (limit : ℕ) (shared : SharedView) (hand : Hand SeatView) : Type 0 where
  pub id_is : hand.port.id ≡ shared.id
  pub count_is : hand.port.count ≡ length shared.opened.words
  pub may : MayTurnAt code s limit QUANTUM hand.seat hand.port.number

-- its thread made a quantum, and its port the events of that, for which a journal has room
pub record HasRun (code : Code) (s : Shape) (limit : ℕ) (old new : Hand SeatView) : Type 0 where
  pub events : List WordEvent
  pub made : MadeQuantumAt code s limit old.seat new.seat events
  pub id_is : new.port.id ≡ old.port.id
  pub count_is : new.port.count ≡ old.port.count
  pub number : new.port.number ≡ old.port.number
  pub events_are : new.port.events ≡ old.port.events ++ events
  pub few : length events ≤ QUANTUM

-- by what is lent to it
abbrev pub MayBeRunBy : {G : Type 0} → Lent SharedView G → Hand SeatView → Type 0
MayBeRunBy lent hand = MayRun lent.code.now lent.shape.now lent.limit lent.shared.now hand

abbrev pub WasRunBy : {B G : Type 0} → Lent B G → Hand SeatView → Hand SeatView → Type 0
WasRunBy lent old new = HasRun lent.code.now lent.shape.now lent.limit old new

-- ---- workers
-- so it is of the hand at a place, if there is one
abbrev pub MayRunAt : Code → Shape → ℕ → SharedView → Option (Hand SeatView) → Type 0
MayRunAt code s limit shared None = Unit {0}
MayRunAt code s limit shared (Some hand) = MayRun code s limit shared hand

abbrev pub HasRunAt : Code → Shape → ℕ → Option (Hand SeatView) → Option (Hand SeatView) → Type 0
HasRunAt code s limit None None = Unit {0}
HasRunAt code s limit (Some old) (Some new) = HasRun code s limit old new
HasRunAt code s limit None (Some new) = ⊥
HasRunAt code s limit (Some old) None = ⊥

abbrev pub MayAllRun : Code → Shape → ℕ → SharedView → Worker SeatView → Type 0
MayAllRun code s limit shared worker = (n : ℕ) → MayRunAt code s limit shared (slice_index_or worker.hands.items n None)

abbrev pub HaveAllRun : Code → Shape → ℕ → Worker SeatView → Worker SeatView → Type 0
HaveAllRun code s limit old new = (n : ℕ)
    → HasRunAt code s limit (slice_index_or old.hands.items n None) (slice_index_or new.hands.items n None)

abbrev pub MayAllBeRunBy : {G : Type 0} → Lent SharedView G → Worker SeatView → Type 0
MayAllBeRunBy lent worker = MayAllRun lent.code.now lent.shape.now lent.limit lent.shared.now worker

abbrev pub WereAllRunBy : {B G : Type 0} → Lent B G → Worker SeatView → Worker SeatView → Type 0
WereAllRunBy lent old new = HaveAllRun lent.code.now lent.shape.now lent.limit old new

-- ---- a round
-- it was made, and its events were appended to these
pub record RecordedRound (code : Code) (s : Shape) (limit : ℕ) (words now : List ℕ) (old new : List Seat)
    (before after : List WordEvent) : Type 0 where
  pub round : MadeRound code s limit words now old new
  pub appended : after ≡ before ++ round.history.history

-- ---- between two rounds
-- at this place is a run with these word events in which no thread made more events than it may
pub record AreRounds (code : Code) (s : Shape) (limit : ℕ) (rounds : Rounds) : Type 0 where
  pub turns : List Turn
  pub count : length rounds.port ≡ words_of s
  pub run : IsRun bounds (one_thread code s) (opening_of bounds (one_thread code s) (opening_words code s)) turns
  pub few : (t : ℕ) → (place_after code s turns).made t ≤ limit
  pub words : rounds.port ≡ (place_after code s turns).words
  pub journal : word_events turns ≡ rounds.events.items
  pub seats : AreSeats code s (place_after code s turns).threads (place_after code s turns).made
      (place_after code s turns).started rounds.threads.seats.items
