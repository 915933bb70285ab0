-- What the proof of the call that makes a schedule needs: where its run is, and by which turns it goes on.
use Rattle.std.specs.Prelude.{ℕ, zero, suc, ◌≡◌, ◌≤◌, ◌⊎◌, Bool, true, false, List, [], ◌∷◌, ◌++◌, length}
use Rattle.std.specs.Prelude.{slice_index_or}
use Rattle.sharc_word.specs.{declared.step.WordEvent.WordEvent, declared.step.WordOp.TheVariants.Load}
use Rattle.sharc_code.specs.{declared.code.Code.Code, declared.shape.Shape.Shape, Path.counted}
use Rattle.sharc_code.specs.{Runs.{Turn, Owns, state_now}, Whole.{one_thread, place_after}}
use Rattle.sharc_threads.specs.Ends.{is_enabled}
use Rattle.sharc_seq.specs.Walk.{has_event, StandsAt, AreQuietTurns}
use Rattle.sharc_schedule.specs.{Schedule.{places_of, counted_together}, declared.places.Going.Going}

-- no turn is a failed try
abbrev pub AllCount : Code → Shape → List Turn → Type 0
AllCount code s [] = Unit {0}
AllCount code s (one ∷ earlier) =
    AllCount code s earlier × (counted (state_now (one_thread code s) (place_after code s earlier) one).at.state ≡ 1)

-- the run is there, and these are the places of its turns
pub record GoesAt (code : Code) (s : Shape) (limit : ℕ) (turns : List Turn) (going : Going) : Type 0 where
  pub stands : StandsAt code s turns going.walk
  pub counts : AllCount code s turns
  pub few : (t : ℕ) → (place_after code s turns).made t ≤ limit
  pub places_are : going.places.items ≡ counted_together (places_of code s limit turns)

abbrev pub IsGoing : Code → Shape → ℕ → Going → Type 0
IsGoing code s limit going = (turns : List Turn) × GoesAt code s limit turns going

-- one more turn, of this thread
pub record OneMore (code : Code) (s : Shape) (limit t : ℕ) (turns : List Turn) (told : Bool)
    (going : Going) : Type 0 where
  pub one : Turn
  pub own : one.thread ≡ t
  pub told_is : told ≡ has_event one.event
  pub goes : GoesAt code s limit (one ∷ turns) going

-- turns without a word operation
abbrev pub Quiet : List Turn → Type 0
Quiet [] = Unit {0}
Quiet (one ∷ earlier) = Quiet earlier × (has_event one.event ≡ false)

-- of which the last alone has one
abbrev pub Loud : List Turn → Type 0
Loud [] = ⊥
Loud (one ∷ earlier) = Quiet earlier × (has_event one.event ≡ true)

-- so many more turns of this thread without a word operation, which was enabled before each
pub record Hurried (code : Code) (s : Shape) (limit t : ℕ) (turns : List Turn) (made : ℕ) (going : Going) : Type 0 where
  pub more : List Turn
  pub many : length more ≡ made
  pub quiet : AreQuietTurns code s limit t turns more
  pub goes : GoesAt code s limit (more ++ turns) going

-- some more, and it is known whether it is enabled behind them
pub record HurriedOn (code : Code) (s : Shape) (limit t : ℕ) (turns : List Turn) (on : Bool) (going : Going)
    : Type 0 where
  pub more : List Turn
  pub quiet : AreQuietTurns code s limit t turns more
  pub goes : GoesAt code s limit (more ++ turns) going
  pub on_is : on ≡ is_enabled code s limit (place_after code s (more ++ turns)) t

-- more turns of this thread, all without a word operation
pub record Walked (code : Code) (s : Shape) (limit t : ℕ) (turns : List Turn) (going : Going) : Type 0 where
  pub more : List Turn
  pub own : Owns t more
  pub goes : GoesAt code s limit (more ++ turns) going
  pub quiet : Quiet more

-- more turns of this thread, each but the last without a word operation: the last has one, or none can come
pub record Reached (code : Code) (s : Shape) (limit t : ℕ) (turns : List Turn) (going : Going) : Type 0 where
  pub more : List Turn
  pub own : Owns t more
  pub goes : GoesAt code s limit (more ++ turns) going
  pub ends : Loud more ⊎ (Quiet more × (is_enabled code s limit (place_after code s (more ++ turns)) t ≡ false))

-- from one run to another by such turns
pub record Stepped (code : Code) (s : Shape) (limit t : ℕ) (before turns : List Turn) : Type 0 where
  pub more : List Turn
  pub own : Owns t more
  pub is : turns ≡ more ++ before
  pub ends : Loud more ⊎ (Quiet more × (is_enabled code s limit (place_after code s turns) t ≡ false))

-- this many times, the threads being these
abbrev pub Followed : Code → Shape → ℕ → (ℕ → ℕ) → List Turn → ℕ → List Turn → Type 0
Followed code s limit pick first zero turns = turns ≡ first
Followed code s limit pick first (suc n) turns =
    (before : List Turn) × Followed code s limit pick first n before × Stepped code s limit (pick n) before turns

-- the thread of the event at a place of a journal
abbrev pub thread_at : List WordEvent → ℕ → ℕ
thread_at journal i =
    (slice_index_or journal i record { thread = 0; step = record { word = 0; op = Load }; result = 0 }).thread
