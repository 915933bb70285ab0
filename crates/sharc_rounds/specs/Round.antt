-- What a round makes of the threads and of the words.
use Rattle.std.specs.Prelude.{ℕ, ◌≡◌, ◌≢◌, ◌<◌, ◌≤◌, ◌+◌, ◌++◌, Bool, true, false, List, [], length, Option, Some, None}
use Rattle.std.specs.Prelude.{slice_index_or}
use Rattle.sharc_word.specs.{declared.step.WordEvent.WordEvent, declared.step.TheConstants.THREADS}
use Rattle.sharc_code.specs.{declared.code.Code.Code, declared.shape.Shape.Shape, declared.state.Wait.Wait}
use Rattle.sharc_code.specs.Layout.{Fits, words_of, state_word}
use Rattle.sharc_code.specs.Path.{IsPath, machine_after, events_of_path, made_in, may_go}
use Rattle.sharc_code.specs.{Runs.{Turn, IsRun, opening_of}, Opening.opening_words}
use Rattle.sharc_code.specs.Whole.{one_thread, bounds, place_after}
use Rattle.sharc_code.specs.declared.state.Wait.TheVariants as waits
use Rattle.sharc_cpu.specs.{Thread.{ThreadView, IsThread}, Rows.IsPlan, declared.rows.RowPlan.RowPlan}
use Rattle.sharc_bus.specs.Bus.{BusView, SeatView, IsOf, OneHistory}
use Rattle.sharc_threads.specs.Seats.{AreSeats}
use Rattle.sharc_rounds.specs.{declared.hand.Hand.Hand, declared.lent.Lent.Lent}
use Rattle.sharc_rounds.specs.{declared.worker.Worker.Worker, declared.round.Rounds.Rounds, declared.words.Words.Words}

-- a place of the table of threads: a thread that was started, or none
abbrev pub Seat : Type 0
Seat = Option ThreadView

-- what is lent to all threads of a round fits together: the plan is one of the code, and there are as many words as the
-- shape has, which fits the code
pub record AreLent (code : Code) (plan : RowPlan) (s : Shape) (words : ℕ) : Type 0 where
  pub plan_is : IsPlan code plan
  pub fits : Fits code s
  pub words_are : words ≡ words_of s

abbrev pub AreLentBy : {B G : Type 0} → Lent B G → ℕ → Type 0
AreLentBy lent words = AreLent lent.code.now lent.plan.now lent.shape.now words

-- ---- one thread
-- it went on by a path with these word events. One that is gone or stopped made no turn; another that was below the
-- limit made one
pub record MadeQuantum (code : Code) (s : Shape) (limit : ℕ) (old new : ThreadView)
    (events : List WordEvent) : Type 0 where
  pub thread : IsThread code s new
  pub founds : List ℕ
  pub path : IsPath code s old.machine founds
  pub machine : new.machine ≡ machine_after code s old.machine founds
  pub events_are : events ≡ events_of_path code s old.machine founds
  pub number : new.machine.own.number ≡ old.machine.own.number
  pub made : new.made ≡ old.made + made_in code s old.machine founds
  pub within : new.made ≤ limit
  pub some : may_go old.machine.at.state ≡ true → old.made < limit → founds ≢ []

-- and these events were appended to those; they are no more than its turns
pub record MadeOver (code : Code) (s : Shape) (limit turns : ℕ) (old new : ThreadView)
    (before after : List WordEvent) : Type 0 where
  pub events : List WordEvent
  pub made : MadeQuantum code s limit old new events
  pub events_are : after ≡ before ++ events
  pub few : length events ≤ turns

-- so did the thread at a place, and where none is there are no events
abbrev pub MadeQuantumAt : Code → Shape → ℕ → Seat → Seat → List WordEvent → Type 0
MadeQuantumAt code s limit (Some old) (Some new) events = MadeQuantum code s limit old new events
MadeQuantumAt code s limit None None events = events ≡ []
MadeQuantumAt code s limit (Some old) None events = ⊥
MadeQuantumAt code s limit None (Some new) events = ⊥

-- there is room for what the thread prints in so many turns, if it goes on
abbrev pub HasRoomFor : ℕ → ThreadView → Type 0
HasRoomFor turns thread = may_go thread.machine.at.state ≡ true → turns ≤ thread.room

-- a thread may make so many turns over the port of this seat of the bus
pub record MayTurn (code : Code) (s : Shape) (limit turns : ℕ) (thread : ThreadView) (number : ℕ) : Type 0 where
  pub thread_is : IsThread code s thread
  pub number_is : number ≡ thread.machine.own.number
  pub within : thread.made ≤ limit
  pub room : HasRoomFor turns thread

abbrev pub MayTurnAt : Code → Shape → ℕ → ℕ → Seat → ℕ → Type 0
MayTurnAt code s limit turns (Some thread) number = MayTurn code s limit turns thread number
MayTurnAt code s limit turns None number = Unit {0}

-- a hand of this bus may make so many turns
pub record MayRun (code : Code) (s : Shape) (limit : ℕ) (bus : BusView) (turns : ℕ)
    (hand : Hand SeatView) : Type 0 where
  pub bus_is : hand.port.bus ≡ bus.id
  pub may : MayTurnAt code s limit turns hand.seat hand.port.number

-- its thread made a quantum, and its port the events of that
pub record HasRun (code : Code) (s : Shape) (limit : ℕ) (old new : Hand SeatView) : Type 0 where
  pub events : List WordEvent
  pub made : MadeQuantumAt code s limit old.seat new.seat events
  pub bus_is : new.port.bus ≡ old.port.bus
  pub number : new.port.number ≡ old.port.number
  pub events_are : new.port.events ≡ old.port.events ++ events

-- by what is lent to it
abbrev pub MayRunBy : {G : Type 0} → Lent BusView G → ℕ → Hand SeatView → Type 0
MayRunBy lent turns hand = MayRun lent.code.now lent.shape.now lent.limit lent.shared.now turns hand

abbrev pub HasRunBy : {B G : Type 0} → Lent B G → Hand SeatView → Hand SeatView → Type 0
HasRunBy lent old new = HasRun lent.code.now lent.shape.now lent.limit old new

-- where a thread had room for so many turns and for more, it has room for these
abbrev pub KeepsRoom : ℕ → Seat → Seat → Type 0
KeepsRoom turns (Some old) (Some new) = (more : ℕ) → HasRoomFor (turns + more) old → HasRoomFor more new
KeepsRoom turns (Some old) None = Unit {0}
KeepsRoom turns None new = Unit {0}

-- whether a thread is there that is neither gone nor stopped
abbrev pub is_on : Seat → Bool
is_on None = false
is_on (Some thread) = may_go thread.machine.at.state

-- whether a thread is there that goes on, holds a mutex, and asks for nothing that it may have to wait for
abbrev pub IsInSection : Seat → Type 0
IsInSection None = ⊥
IsInSection (Some thread) =
    (may_go thread.machine.at.state ≡ true) × (thread.machine.own.held ≢ []) × (thread.wait ≡ None)

-- ---- workers
-- so it is of the hand at a place, if there is one
abbrev pub MayRunAt : Code → Shape → ℕ → BusView → ℕ → Option (Hand SeatView) → Type 0
MayRunAt code s limit bus turns None = Unit {0}
MayRunAt code s limit bus turns (Some hand) = MayRun code s limit bus turns hand

abbrev pub HasRunAt : Code → Shape → ℕ → Option (Hand SeatView) → Option (Hand SeatView) → Type 0
HasRunAt code s limit None None = Unit {0}
HasRunAt code s limit (Some old) (Some new) = HasRun code s limit old new
HasRunAt code s limit None (Some new) = ⊥
HasRunAt code s limit (Some old) None = ⊥

abbrev pub KeepsRoomAt : ℕ → Option (Hand SeatView) → Option (Hand SeatView) → Type 0
KeepsRoomAt turns (Some old) (Some new) = KeepsRoom turns old.seat new.seat
KeepsRoomAt turns (Some old) None = Unit {0}
KeepsRoomAt turns None new = Unit {0}

abbrev pub MayAllRun : Code → Shape → ℕ → BusView → ℕ → Worker SeatView → Type 0
MayAllRun code s limit bus turns worker = (n : ℕ)
    → MayRunAt code s limit bus turns (slice_index_or worker.hands.items n None)

abbrev pub HaveAllRun : Code → Shape → ℕ → Worker SeatView → Worker SeatView → Type 0
HaveAllRun code s limit old new = (n : ℕ)
    → HasRunAt code s limit (slice_index_or old.hands.items n None) (slice_index_or new.hands.items n None)

abbrev pub MayAllRunBy : {G : Type 0} → Lent BusView G → ℕ → Worker SeatView → Type 0
MayAllRunBy lent turns worker = MayAllRun lent.code.now lent.shape.now lent.limit lent.shared.now turns worker

abbrev pub HaveAllRunBy : {B G : Type 0} → Lent B G → Worker SeatView → Worker SeatView → Type 0
HaveAllRunBy lent old new = HaveAllRun lent.code.now lent.shape.now lent.limit old new

abbrev pub KeepAllRoom : ℕ → Worker SeatView → Worker SeatView → Type 0
KeepAllRoom turns old new = (n : ℕ)
    → KeepsRoomAt turns (slice_index_or old.hands.items n None) (slice_index_or new.hands.items n None)

-- whether a thread is at a place that is neither gone nor stopped
abbrev pub goes_on : Option (Hand SeatView) → Bool
goes_on None = false
goes_on (Some hand) = is_on hand.seat

-- the hand of this number at this worker
abbrev pub hand_at : {S : Type 0} → List (Worker S) → ℕ → ℕ → Worker S → Option (Hand S)
hand_at workers w n d = slice_index_or (slice_index_or workers w d).hands.items n None

-- ---- a round
-- each thread made a quantum, and their word events are the parts of one legal history, which leads from these words to
-- those
pub record MadeRound (code : Code) (s : Shape) (limit : ℕ) (words now : List ℕ) (old new : List Seat) : Type 0 where
  pub count : length new ≡ length old
  pub lists : List (List WordEvent)
  pub as_many : length lists ≡ length old
  pub history : OneHistory words lists now
  pub each : (n : ℕ) → n < length old
      → MadeQuantumAt code s limit (slice_index_or old n None) (slice_index_or new n None) (slice_index_or lists n [])

-- a thread of this number, which has made no more events than it may
pub record MayBeginAs (code : Code) (s : Shape) (limit n : ℕ) (thread : ThreadView) : Type 0 where
  pub thread_is : IsThread code s thread
  pub number : thread.machine.own.number ≡ n
  pub within : thread.made ≤ limit

abbrev pub MayBeginAt : Code → Shape → ℕ → ℕ → Seat → Type 0
MayBeginAt code s limit n (Some thread) = MayBeginAs code s limit n thread
MayBeginAt code s limit n None = Unit {0}

-- a round may begin with these
pub record MayBegin (code : Code) (s : Shape) (limit : ℕ) (seats : List Seat) : Type 0 where
  pub count : length seats ≡ THREADS
  pub each : (n : ℕ) → n < length seats → MayBeginAt code s limit n (slice_index_or seats n None)

-- a thread that goes on has room for the prints of so many turns, and is else as it was
pub record HasRoom (turns : ℕ) (old new : ThreadView) : Type 0 where
  pub room : may_go old.machine.at.state ≡ true → turns ≤ new.room
  pub thread : (code : Code) (s : Shape) → IsThread code s old → IsThread code s new
  pub machine : new.machine ≡ old.machine
  pub made : new.made ≡ old.made

abbrev pub HasRoomAt : ℕ → Seat → Seat → Type 0
HasRoomAt turns (Some old) (Some new) = HasRoom turns old new
HasRoomAt turns None None = Unit {0}
HasRoomAt turns (Some old) None = ⊥
HasRoomAt turns None (Some new) = ⊥

-- ---- between two rounds
-- they are on the bus of the threads, and none is looked at that is not there
pub record AreWords (words : Words) : Type 0 where
  pub of : IsOf words.bus words.rest
  pub ports : words.bus.ports ≡ THREADS
  pub opening : length words.bus.opening ≡ length words.seen.items
  pub count : length words.rest.words ≡ length words.seen.items

-- a look changes none
pub record SameWords (old new : Words) : Type 0 where
  pub bus : new.bus ≡ old.bus
  pub rest : new.rest ≡ old.rest
  pub count : length new.seen.items ≡ length old.seen.items

-- they are on the same bus
pub record KeptBus (old new : Words) : Type 0 where
  pub bus : new.bus ≡ old.bus
  pub of : IsOf new.bus new.rest
  pub count : length new.seen.items ≡ length old.seen.items

-- the word that says whether a thread has to wait
abbrev pub wait_word : Wait → ℕ
wait_word (waits.Mutex word site) = word
wait_word (waits.Join number site) = state_word number
wait_word (waits.Cond word site) = word

-- at this place is a run in which no thread made more events than it may
pub record AreRounds (code : Code) (s : Shape) (limit : ℕ) (rounds : Rounds) : Type 0 where
  pub turns : List Turn
  pub kept : AreWords rounds.words
  pub count : length rounds.words.rest.words ≡ words_of s
  pub run : IsRun bounds (one_thread code s) (opening_of bounds (one_thread code s) (opening_words code s)) turns
  pub few : (t : ℕ) → (place_after code s turns).made t ≤ limit
  pub words : rounds.words.rest.words ≡ (place_after code s turns).words
  pub seats : AreSeats code s (place_after code s turns).threads (place_after code s turns).made
      (place_after code s turns).started rounds.threads.seats.items
