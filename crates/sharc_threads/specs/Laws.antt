-- Laws of tables of threads, for the crates above.
use Rattle.std.specs.Prelude.{ℕ, ◌≡◌, ◌<◌, ◌||◌, Bool, List, length, is_some, None, Option, slice_index_or}
use Rattle.sharc_word.specs.declared.step.TheConstants.{THREADS}
use Rattle.sharc_code.specs.{declared.code.Code.Code, declared.shape.Shape.Shape, Machine.Machine, Runs.is_started}
use Rattle.sharc_code.specs.Whole.{bounds}
use Rattle.sharc_cpu.specs.Thread.{ThreadView}
use Rattle.sharc_threads.specs.Ends.{Standing, is_enabled, AreStarted}
use Rattle.sharc_threads.specs.Seats.{AreSeats, AreOf, HasBegun, has_number, may_turn_at, left, present}

-- each number is one that threads have
abbrev pub SeatsHaveNumbers : Type 0
SeatsHaveNumbers = (code : Code) (s : Shape) (threads : ℕ → Machine) (made : ℕ → ℕ) (started : ℕ → Bool)
    (seats : List (Option ThreadView))
    → AreSeats code s threads made started seats → (t : ℕ) → has_number (slice_index_or seats t None)

-- a thread is enabled exactly where its place has one that may make a turn
abbrev pub EnabledIsTold : Type 0
EnabledIsTold = (code : Code) (s : Shape) (limit : ℕ) (g : Standing) (words : List ℕ) (seats : List (Option ThreadView))
    → AreOf code s g words seats
    → (t : ℕ) → may_turn_at words limit (slice_index_or seats t None) ≡ is_enabled code s limit g t

-- the threads of a table are those that were started
abbrev pub PresentAreStarted : Type 0
PresentAreStarted = (code : Code) (s : Shape) (g : Standing) (words : List ℕ) (seats : List (Option ThreadView))
    → s.threads ≡ THREADS
    → AreOf code s g words seats → AreStarted code s g (present seats)

-- where threads begin whose state words are 1, the table is that of the place where they were started too, and as many
-- events are left
abbrev pub TablesBegin : Type 0
TablesBegin = (code : Code) (s : Shape) (threads : ℕ → Machine) (made : ℕ → ℕ) (started : ℕ → Bool) (words : List ℕ)
    (old new : List (Option ThreadView))
    → AreSeats code s threads made started old → length new ≡ length old
    → ((t : ℕ) → t < THREADS → HasBegun code s words t (slice_index_or old t None) (slice_index_or new t None))
    → AreSeats code s threads made (λ t. is_started bounds words t || started t) new
    × ((limit : ℕ) → left limit new ≡ left limit old)

-- a thread is there exactly where it was started
abbrev pub StartedAreThere : Type 0
StartedAreThere = (code : Code) (s : Shape) (threads : ℕ → Machine) (made : ℕ → ℕ) (started : ℕ → Bool)
    (seats : List (Option ThreadView))
    → AreSeats code s threads made started seats → (t : ℕ) → is_some (slice_index_or seats t None) ≡ started t

-- it does not matter by which function it is determined who was started
abbrev pub TablesAgree : Type 0
TablesAgree = (code : Code) (s : Shape) (threads : ℕ → Machine) (made : ℕ → ℕ) (started other : ℕ → Bool)
    (seats : List (Option ThreadView))
    → ((t : ℕ) → started t ≡ other t) → AreSeats code s threads made started seats
    → AreSeats code s threads made other seats

-- the laws of tables together
pub record TableLaws : Type 0 where
  pub numbers : SeatsHaveNumbers
  pub enabled : EnabledIsTold
  pub present : PresentAreStarted
  pub begin : TablesBegin
  pub there : StartedAreThere
  pub same : TablesAgree
