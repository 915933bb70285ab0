-- The schedule of a run: its turns in the order of its word operations, without failed tries, each as a place among the
-- enabled threads.
use Rattle.std.specs.Prelude.{ℕ, zero, suc, ◌≡◌, Bool, true, false, nat_eq, nat_lt, List, [], ◌∷◌, ◌++◌, Option, Some}
use Rattle.std.specs.Prelude.{None, replicate, slice_index, if◌then◌else◌}
use Rattle.sharc_word.specs.{declared.step.WordEvent.WordEvent, declared.step.TheConstants.THREADS}
use Rattle.sharc_code.specs.{declared.code.Code.Code, declared.shape.Shape.Shape, declared.state.TurnState.TurnState}
use Rattle.sharc_code.specs.{declared.state.TurnState.TheVariants.{Runs, Tries, Stopped, Ended}, Runs.{Turn, state_now}}
use Rattle.sharc_code.specs.Whole.{one_thread, place_after}
use Rattle.sharc_seq.specs.Run.{enabled}

-- ---- the order of the turns. A run has its newest turn first
abbrev pub loose_by : Option WordEvent → Turn → List Turn → List Turn
loose_by None turn before = turn ∷ before
loose_by (Some event) turn before = []

-- the turns of a thread after its last word operation
abbrev pub loose : ℕ → List Turn → List Turn
loose t [] = []
loose t (turn ∷ earlier) = if nat_eq t turn.thread then loose_by turn.event turn (loose t earlier) else loose t earlier

abbrev pub firm_by : Option WordEvent → Turn → List Turn → List Turn → List Turn
firm_by None turn before rest = rest
firm_by (Some event) turn before rest = turn ∷ (before ++ rest)

-- the word operations of the run in their order, directly before each the turns that its thread made since its word
-- operation before
abbrev pub firm : List Turn → List Turn
firm [] = []
firm (turn ∷ earlier) = firm_by turn.event turn (loose turn.thread earlier) (firm earlier)

-- the turns of all threads below this number after their last word operations, by the threads' numbers
abbrev pub all_loose : ℕ → List Turn → List Turn
all_loose zero turns = []
all_loose (suc t) turns = loose t turns ++ all_loose t turns

abbrev pub arranged : List Turn → List Turn
arranged turns = all_loose THREADS turns ++ firm turns

-- ---- failed tries
abbrev pub is_try : TurnState → Bool
is_try Runs = false
is_try Tries = true
is_try Stopped = false
is_try Ended = false

-- the run without its failed tries
abbrev pub without_tries : Code → Shape → List Turn → List Turn
without_tries code s [] = []
without_tries code s (turn ∷ earlier) =
    if is_try (state_now (one_thread code s) (place_after code s earlier) turn).at.state
    then without_tries code s earlier
    else turn ∷ without_tries code s earlier

-- the turns of a schedule, the newest first
abbrev pub scheduled_turns : Code → Shape → List Turn → List Turn
scheduled_turns code s turns = without_tries code s (arranged turns)

-- ---- places
-- where a thread is in a list
abbrev pub place_in : ℕ → List ℕ → ℕ
place_in t [] = 0
place_in t (other ∷ more) = if nat_eq t other then 0 else suc (place_in t more)

-- the place of the thread of each turn among those that were enabled, the earliest turn first
abbrev pub places_of : Code → Shape → ℕ → List Turn → List ℕ
places_of code s limit [] = []
places_of code s limit (turn ∷ earlier) =
    places_of code s limit earlier ++ place_in turn.thread (enabled code s limit (place_after code s earlier)) ∷ []

-- equal neighbours counted together
abbrev pub counted_in : ℕ → List (ℕ × ℕ) → List (ℕ × ℕ)
counted_in place [] = (place, 1) ∷ []
counted_in place (first ∷ more) =
    if nat_eq place first.0 then (first.0, suc first.1) ∷ more else (place, 1) ∷ first ∷ more

abbrev pub counted_together : List ℕ → List (ℕ × ℕ)
counted_together [] = []
counted_together (place ∷ places) = counted_in place (counted_together places)

-- a place for each turn
abbrev pub one_by_one : List (ℕ × ℕ) → List ℕ
one_by_one [] = []
one_by_one (first ∷ more) = replicate first.1 first.0 ++ one_by_one more

abbrev pub schedule_of : Code → Shape → ℕ → List Turn → List (ℕ × ℕ)
schedule_of code s limit turns = counted_together (places_of code s limit (scheduled_turns code s turns))

-- ---- the stored chooser: the place that is written for turn i, if there is one and it is below n, else 0
abbrev pub or_first : ℕ → ℕ → ℕ
or_first place n = if nat_lt place n then place else 0

abbrev pub stored : List (ℕ × ℕ) → ℕ → ℕ → ℕ
stored places i n = or_first (slice_index (one_by_one places) i) n

abbrev pub Stored : List (ℕ × ℕ) → ℕ → ℕ → ℕ → Type 0
Stored places i n place = place ≡ stored places i n
