-- Runs of which the caller picks each turn: where such a run is, and what one more turn makes of it.
use Rattle.std.specs.Prelude.{ℕ, ◌≡◌, ◌<◌, ◌≤◌, ◌+◌, Bool, true, false, List, [], ◌∷◌, ◌++◌, length, filter, is_some}
use Rattle.std.specs.Prelude.{Option, Some, None, slice_index_or}
use Rattle.std.specs.List.{range_with_len}
use Rattle.sharc_word.specs.{Place.{LeadsInWords, place_of_words}, declared.step.WordEvent.WordEvent}
use Rattle.sharc_word.specs.{declared.step.WordStep.WordStep, declared.step.TheConstants.THREADS}
use Rattle.sharc_code.specs.{declared.code.Code.Code, declared.shape.Shape.Shape, Layout.words_of}
use Rattle.sharc_code.specs.Path.{turn, after, asked_by, counted, TurnLeads, machine_after, IsPath as IsCodePath}
use Rattle.sharc_code.specs.{Opening.opening_words, ThreadLaws.found_now}
use Rattle.sharc_code.specs.{Runs.{Turn, IsRun, opening_of, result_of, state_now}, Stages.begins_of}
use Rattle.sharc_code.specs.Whole.{one_thread, bounds, place_after}
use Rattle.sharc_cpu.specs.Thread.{ThreadView, IsThread}
use Rattle.sharc_threads.specs.{Ends.is_enabled, Seats.{AreSeats, HasBegun, IsSeat, left}}
use Rattle.sharc_seq.specs.{declared.walk.Walk.Walk, Quiet.MakesQuietly}

-- ---- a turn that made one event
pub record MadeTurn (code : Code) (s : Shape) (words now : List ℕ) (old new : ThreadView) : Type 0 where
  pub thread : IsThread code s new
  pub found : ℕ
  pub machine : new.machine ≡ after (turn code s old.machine) found
  pub number : new.machine.own.number ≡ old.machine.own.number
  pub led : TurnLeads LeadsInWords old.machine.own.number (turn code s old.machine) found
      (place_of_words words) (place_of_words now)
  pub count : length now ≡ length words
  pub event : counted new.machine.at.state ≡ 1
  pub made : new.made ≡ old.made + 1

-- whether it has a word operation
abbrev pub has_step : Option WordStep → Bool
has_step None = false
has_step (Some step) = true

abbrev pub has_event : Option WordEvent → Bool
has_event None = false
has_event (Some event) = true

-- so it is at a place of the table, of a turn that starts this thread or none
abbrev pub IsThreadAt : Code → Shape → Option ThreadView → Type 0
IsThreadAt code s None = Unit {0}
IsThreadAt code s (Some thread) = IsThread code s thread

abbrev pub MadeTurnAt : Code → Shape → List ℕ → List ℕ → Option ThreadView → Option ThreadView → Option ℕ → Type 0
MadeTurnAt code s words now (Some old) (Some new) begins =
    MadeTurn code s words now old new × (begins ≡ begins_of old.machine.own.stage)
MadeTurnAt code s words now (Some old) None begins = ⊥
MadeTurnAt code s words now None new begins = ⊥

abbrev pub ToldAt : Code → Shape → Option ThreadView → Bool → Type 0
ToldAt code s (Some old) told = told ≡ has_step (asked_by (turn code s old.machine))
ToldAt code s None told = ⊥

-- and what its step found, else 0
abbrev pub FoundAt : Code → Shape → List ℕ → Option ThreadView → ℕ → Type 0
FoundAt code s words (Some old) found = found ≡ found_now words (turn code s old.machine)
FoundAt code s words None found = ⊥

-- ---- threads that begin
-- the numbers of the threads that are there
abbrev pub numbers_of : List (Option ThreadView) → List ℕ
numbers_of seats = filter (λ t. is_some (slice_index_or seats t None)) (range_with_len 0 THREADS)

pub record HaveBegun (code : Code) (s : Shape) (words : List ℕ) (old new : List (Option ThreadView))
    (started : List ℕ) : Type 0 where
  pub count : length new ≡ length old
  pub each : (t : ℕ) → t < THREADS → HasBegun code s words t (slice_index_or old t None) (slice_index_or new t None)
  pub numbers : started ≡ numbers_of new

-- where the turn starts no thread all is as it was; else the threads whose state words are 1 are there from now on
abbrev pub Began : Code → Shape → List ℕ → Option ℕ → List (Option ThreadView) → List (Option ThreadView) → List ℕ
    → List ℕ → Type 0
Began code s words None old new before started = (new ≡ old) × (started ≡ before)
Began code s words (Some n) old new before started = HaveBegun code s words old new started

-- ---- where it is
-- this run is there
pub record StandsAt (code : Code) (s : Shape) (turns : List Turn) (walk : Walk) : Type 0 where
  pub count : length walk.port.port ≡ words_of s
  pub run : IsRun bounds (one_thread code s) (opening_of bounds (one_thread code s) (opening_words code s)) turns
  pub words : walk.port.port ≡ (place_after code s turns).words
  pub seats : AreSeats code s (place_after code s turns).threads (place_after code s turns).made
      (place_after code s turns).started walk.threads.seats.items
  pub numbers : walk.started.items ≡ numbers_of walk.threads.seats.items

abbrev pub IsWalk : Code → Shape → Walk → Type 0
IsWalk code s walk = (turns : List Turn) × StandsAt code s turns walk

-- the thread of this number is there as this, if it was started
abbrev pub IsThreadThere : Code → Shape → List Turn → ℕ → Option ThreadView → Type 0
IsThreadThere code s turns t seat = IsSeat code s (place_after code s turns).threads (place_after code s turns).made
    (place_after code s turns).started t seat

-- and this thread is enabled there
abbrev pub MayGoOn : Code → Shape → ℕ → ℕ → Walk → Type 0
MayGoOn code s limit t walk =
    (turns : List Turn) × StandsAt code s turns walk × (is_enabled code s limit (place_after code s turns) t ≡ true)

-- the run has one more turn, of this thread. It is no failed try, and it is known whether it has a word operation, and
-- what that found, else 0
pub record WentOn (code : Code) (s : Shape) (t : ℕ) (turns : List Turn) (told : Bool) (walk : Walk) : Type 0 where
  pub one : Turn
  pub own : one.thread ≡ t
  pub counts : counted (state_now (one_thread code s) (place_after code s turns) one).at.state ≡ 1
  pub told_is : told ≡ has_event one.event
  pub found_is : walk.port.found ≡ result_of one.event
  pub stands : StandsAt code s (one ∷ turns) walk

-- ---- turns without a word operation
-- a thread made so many, and the words are as they were
pub record MadeQuietly (code : Code) (s : Shape) (limit : ℕ) (words now : List ℕ) (old new : ThreadView)
    (made : ℕ) : Type 0 where
  pub thread : IsThread code s new
  pub quiet : MakesQuietly code s old.machine made
  pub founds : List ℕ
  pub path : IsCodePath code s old.machine founds
  pub many : length founds ≡ made
  pub machine : new.machine ≡ machine_after code s old.machine founds
  pub number : new.machine.own.number ≡ old.machine.own.number
  pub words_are : now ≡ words
  pub made_is : new.made ≡ old.made + made
  pub within : new.made ≤ limit

-- so it is at a place of the table
abbrev pub MadeQuietlyAt : Code → Shape → ℕ → List ℕ → List ℕ → Option ThreadView → Option ThreadView → ℕ → Type 0
MadeQuietlyAt code s limit words now (Some old) (Some new) made = MadeQuietly code s limit words now old new made
MadeQuietlyAt code s limit words now (Some old) None made = ⊥
MadeQuietlyAt code s limit words now None new made = ⊥

-- a turn of this thread, which is enabled, that has no word operation and is no failed try
pub record IsQuietTurn (code : Code) (s : Shape) (limit t : ℕ) (turns : List Turn) (one : Turn) : Type 0 where
  pub own : one.thread ≡ t
  pub on : is_enabled code s limit (place_after code s turns) t ≡ true
  pub none : has_event one.event ≡ false
  pub counts : counted (state_now (one_thread code s) (place_after code s turns) one).at.state ≡ 1

abbrev pub AreQuietTurns : Code → Shape → ℕ → ℕ → List Turn → List Turn → Type 0
AreQuietTurns code s limit t turns [] = Unit {0}
AreQuietTurns code s limit t turns (one ∷ more) =
    AreQuietTurns code s limit t turns more × IsQuietTurn code s limit t (more ++ turns) one

-- the run has so many such turns more
pub record WentQuietly (code : Code) (s : Shape) (limit t : ℕ) (turns : List Turn) (made : ℕ)
    (walk : Walk) : Type 0 where
  pub more : List Turn
  pub many : length more ≡ made
  pub quiet : AreQuietTurns code s limit t turns more
  pub stands : StandsAt code s (more ++ turns) walk

-- the events that are left to all threads
abbrev pub events_left : ℕ → Walk → ℕ
events_left limit walk = left limit walk.threads.seats.items
