-- Laws of quanta and rounds, for the crates above.
use Rattle.std.specs.Prelude.{ℕ, ◌≡◌, ◌≤◌, ◌<◌, ◌++◌, true, false, List, [], length, None, slice_index_or}
use Rattle.sharc_word.specs.{declared.step.WordEvent.WordEvent, declared.step.TheConstants.THREADS}
use Rattle.sharc_word.specs.Place.{LeadsInEvents, place_of_events}
use Rattle.sharc_code.specs.{declared.code.Code.Code, declared.shape.Shape.Shape, Opening.opening_words}
use Rattle.sharc_code.specs.{Runs.{Turn, IsRun, opening_of, word_events}, Whole.{one_thread, bounds, place_after}}
use Rattle.sharc_code.specs.Path.{may_go}
use Rattle.sharc_cpu.specs.{Thread.{ThreadView, IsThread}, Quantum.IsQuantum, declared.quantum.Pause.Pause}
use Rattle.sharc_threads.specs.Seats.{AreSeats, HasBegun, left, may_turn_at}
use Rattle.sharc_rounds.specs.Round.{Seat, MadeQuantum, MadeQuantumAt, MadeOver, MayTurnAt, MayBeginAt, HasRoomAt}
use Rattle.sharc_rounds.specs.Round.{MadeRound}

-- a thread that is gone or stopped stays as it is
abbrev pub IdleStay : Type 0
IdleStay = (code : Code) (s : Shape) (limit : ℕ) (thread : ThreadView) → IsThread code s thread → thread.made ≤ limit
    → may_go thread.machine.at.state ≡ false → MadeQuantum code s limit thread thread []

-- turns over a port that serves this number, up to so many events that no thread below the limit is held up, are a
-- quantum within the limit
abbrev pub QuantaAreMade : Type 0
QuantaAreMade = (code : Code) (s : Shape) (most limit turns number : ℕ) (old new : ThreadView)
    (before after : List WordEvent) (pause : Pause)
    → 0 < turns → most ≤ limit → (old.made < limit → old.made < most)
    → IsQuantum (λ (t : ℕ). t ≡ number) LeadsInEvents code s turns most old new (place_of_events before)
    (place_of_events after) pause
    → IsThread code s new → new.machine.own.number ≡ old.machine.own.number → old.machine.own.number ≡ number
    → MadeOver code s limit turns old new before after

-- a thread with room for the prints of so many turns may make them
abbrev pub RoomSuffices : Type 0
RoomSuffices = (code : Code) (s : Shape) (limit turns n number : ℕ) (old room : Seat) → number ≡ n
    → MayBeginAt code s limit n old → HasRoomAt turns old room → MayTurnAt code s limit turns room number

-- and what a quantum made of it, it made of the thread as it was before
abbrev pub RoomChangesNothing : Type 0
RoomChangesNothing = (code : Code) (s : Shape) (limit turns : ℕ) (old room new : Seat) (events : List WordEvent)
    → HasRoomAt turns old room → MadeQuantumAt code s limit room new events → MadeQuantumAt code s limit old new events

-- the laws of quanta together
pub record QuantumLaws : Type 0 where
  pub idle : IdleStay
  pub made : QuantaAreMade
  pub may : RoomSuffices
  pub without_room : RoomChangesNothing

-- a run in which no thread made more events than it may is at these words and threads
pub record StandsAt (code : Code) (s : Shape) (limit : ℕ) (turns : List Turn) (words : List ℕ)
    (seats : List Seat) : Type 0 where
  pub run : IsRun bounds (one_thread code s) (opening_of bounds (one_thread code s) (opening_words code s)) turns
  pub few : (t : ℕ) → (place_after code s turns).made t ≤ limit
  pub words_are : words ≡ (place_after code s turns).words
  pub seats_are : AreSeats code s (place_after code s turns).threads (place_after code s turns).made
      (place_after code s turns).started seats

-- it has more turns, with these word events, and is at these words and threads. Where some thread was enabled, a thread
-- made an event
pub record GoneOn (code : Code) (s : Shape) (limit : ℕ) (turns : List Turn) (words now : List ℕ) (seats new : List Seat)
    (events : List WordEvent) : Type 0 where
  pub more : List Turn
  pub stands : StandsAt code s limit (more ++ turns) now new
  pub events_are : word_events more ≡ events
  pub fewer : ((t : ℕ) × (may_turn_at words limit (slice_index_or seats t None) ≡ true))
      → left limit new < left limit seats

-- by a round a run goes on: where the threads begin whose state words are 1 after it, the run is there
abbrev pub RoundsGoOn : Type 0
RoundsGoOn = (code : Code) (s : Shape) (limit : ℕ) (turns : List Turn) (words now : List ℕ) (seats mid new : List Seat)
    → limit ≤ 100000000 → StandsAt code s limit turns words seats
    → (made : MadeRound code s limit words now seats mid) → length new ≡ length mid
    → ((t : ℕ) → t < THREADS → HasBegun code s now t (slice_index_or mid t None) (slice_index_or new t None))
    → GoneOn code s limit turns words now seats new made.history.history

-- a round keeps the number of words
abbrev pub RoundsKeepLength : Type 0
RoundsKeepLength = (code : Code) (s : Shape) (limit : ℕ) (words now : List ℕ) (old new : List Seat)
    → MadeRound code s limit words now old new → length now ≡ length words

-- the laws of rounds together
pub record RoundLaws : Type 0 where
  pub goes_on : RoundsGoOn
  pub length_stays : RoundsKeepLength
