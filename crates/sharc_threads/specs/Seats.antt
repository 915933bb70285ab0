-- The threads of a run by their numbers, and that this is where the run is.
use Rattle.std.specs.Prelude.{ℕ, ◌≡◌, ◌<◌, ◌-◌, ◌&&◌, nat_lt, not, Bool, true, false, List, [], ◌∷◌, length, Option}
use Rattle.std.specs.Prelude.{Some, None, slice_index_or}
use Rattle.std.specs.List.{sum_by}
use Rattle.sharc_word.specs.declared.step.TheConstants.{THREADS}
use Rattle.sharc_code.specs.{declared.code.Code.Code, declared.shape.Shape.Shape, declared.state.TurnState.TurnState}
use Rattle.sharc_code.specs.{declared.state.TurnState.TheVariants.{Runs, Tries, Stopped, Ended}, Machine.Machine}
use Rattle.sharc_code.specs.{Path.{begun, may_go}, Runs.is_started, Waits.held_up, Whole.bounds}
use Rattle.sharc_cpu.specs.Thread.{ThreadView, IsThread}
use Rattle.sharc_threads.specs.Ends.{Standing}

-- ---- one thread
-- the last turn was the last event
abbrev pub is_end : TurnState → Bool
is_end Runs = false
is_end Tries = false
is_end Stopped = false
is_end Ended = true

-- its next turn would be a failed try where the words are these
abbrev pub waits : List ℕ → ThreadView → Bool
waits words thread = held_up words thread.machine.own.number thread.wait

-- it is enabled where it was started
abbrev pub may_turn : List ℕ → ℕ → ThreadView → Bool
may_turn words limit thread = may_go thread.machine.at.state && (nat_lt thread.made limit && not (waits words thread))

-- ---- a place of the table, with a thread or none
abbrev pub is_on_at : Option ThreadView → Bool
is_on_at None = false
is_on_at (Some thread) = may_go thread.machine.at.state

abbrev pub waits_at : List ℕ → Option ThreadView → Bool
waits_at words None = false
waits_at words (Some thread) = waits words thread

abbrev pub may_turn_at : List ℕ → ℕ → Option ThreadView → Bool
may_turn_at words limit None = false
may_turn_at words limit (Some thread) = may_turn words limit thread

-- the number of a thread that is there is one that threads have
abbrev pub has_number : Option ThreadView → Type 0
has_number None = Unit {0}
has_number (Some thread) = thread.machine.own.number < THREADS

-- the events that are left to a thread, and to all
abbrev pub left_to : ℕ → Option ThreadView → ℕ
left_to limit None = limit
left_to limit (Some thread) = limit - thread.made

abbrev pub left : ℕ → List (Option ThreadView) → ℕ
left limit seats = sum_by (left_to limit) seats

-- the threads that are there
abbrev pub present : List (Option ThreadView) → List ThreadView
present [] = []
present (None ∷ seats) = present seats
present (Some thread ∷ seats) = thread ∷ present seats

-- ---- where a run is
-- the thread of this number, where the run has these threads
pub record Sits (code : Code) (s : Shape) (threads : ℕ → Machine) (made : ℕ → ℕ) (t : ℕ)
    (thread : ThreadView) : Type 0 where
  pub thread_is : IsThread code s thread
  pub number : thread.machine.own.number ≡ t
  pub machine : thread.machine ≡ threads t
  pub made_is : thread.made ≡ made t

-- a thread that was started is there, and one that was not has made no turn
abbrev pub IsSeat : Code → Shape → (ℕ → Machine) → (ℕ → ℕ) → (ℕ → Bool) → ℕ → Option ThreadView → Type 0
IsSeat code s threads made started t (Some thread) = (started t ≡ true) × Sits code s threads made t thread
IsSeat code s threads made started t None = (started t ≡ false) × (threads t ≡ begun code s t) × (made t ≡ 0)

pub record AreSeats (code : Code) (s : Shape) (threads : ℕ → Machine) (made : ℕ → ℕ) (started : ℕ → Bool)
    (seats : List (Option ThreadView)) : Type 0 where
  pub count : length seats ≡ THREADS
  pub few : (t : ℕ) → started t ≡ true → t < THREADS
  pub each : (t : ℕ) → t < THREADS → IsSeat code s threads made started t (slice_index_or seats t None)

-- the table of this place, which has these words
pub record AreOf (code : Code) (s : Shape) (g : Standing) (words : List ℕ)
    (seats : List (Option ThreadView)) : Type 0 where
  pub words_are : words ≡ g.words
  pub are : AreSeats code s g.threads g.made g.started seats

-- ---- threads that are started
-- a thread that made no turn
pub record IsNew (code : Code) (s : Shape) (t : ℕ) (thread : ThreadView) : Type 0 where
  pub thread_is : IsThread code s thread
  pub machine : thread.machine ≡ begun code s t
  pub made : thread.made ≡ 0

-- a thread that is there stays; else there is one from now on where its state word is 1
abbrev pub HasBegun : Code → Shape → List ℕ → ℕ → Option ThreadView → Option ThreadView → Type 0
HasBegun code s words t (Some old) new = new ≡ Some old
HasBegun code s words t None None = is_started bounds words t ≡ false
HasBegun code s words t None (Some new) = (is_started bounds words t ≡ true) × IsNew code s t new
