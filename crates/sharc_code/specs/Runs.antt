-- Runs of several threads: lists of turns, the newest first, and the machine that makes one turn at a time. S is the
-- state of one thread, and E what a turn reports of the source.
use Rattle.std.specs.Prelude.{ℕ, ◌+◌, ◌≡◌, ◌≢◌, ◌≤◌, Bool, true, ◌&&◌, ◌||◌, nat_eq, nat_lt, List, [], ◌∷◌, ◌++◌}
use Rattle.std.specs.Prelude.{slice_index, Option, Some, None, if◌then◌else◌}
use Rattle.sharc_word.specs.{declared.step.WordStep.WordStep, declared.step.WordEvent.WordEvent}
use Rattle.sharc_word.specs.{Words.{words_after_step, words_after}, Place.event_of}
use Rattle.sharc_word.specs.History.{MayFollow, LegalHistory, events_of}
use Rattle.sharc_code.specs.Layout.{state_word}

-- an event of the source that a thread's turn reports
pub record Said (E : Type 0) : Type 0 where
  pub thread : ℕ
  pub told : E

abbrev pub with_told : {E : Type 0} → ℕ → Option E → List (Said E) → List (Said E)
with_told t None says = says
with_told t (Some e) says = record { thread = t; told = e } ∷ says

-- what one thread does: where it starts, whether it makes a turn, the word step that its turn asks for, where a turn
-- with this result leads (0 where it asked for no step), whether the turn that led to a state counts as an event, and
-- what a turn reports of the source. A result that is a reference is paired with a number that the earlier events of
-- all threads give
pub record OneThread (S E : Type 0) : Type 0 where
  pub start : ℕ → S
  pub runs : S → Bool
  pub asks : S → Option WordStep
  pub goes : S → ℕ → S
  pub counts : S → ℕ
  pub pairs : List (Said E) → S → ℕ → ℕ
  pub says : S → ℕ → ℕ → Option E

-- how many threads there may be, and how many events each may make
pub record Bounds : Type 0 where
  pub threads : ℕ
  pub limit : ℕ

-- a turn of a thread, with its word event if it made one
pub record Turn : Type 0 where
  pub thread : ℕ
  pub event : Option WordEvent

abbrev pub turn_with : ℕ → Option WordEvent → Turn
turn_with t event = record { thread = t; event = event }

abbrev pub result_of : Option WordEvent → ℕ
result_of None = 0
result_of (Some e) = e.result

abbrev pub step_of : Option WordEvent → Option WordStep
step_of None = None
step_of (Some e) = Some e.step

abbrev pub event_list : Option WordEvent → List WordEvent
event_list None = []
event_list (Some e) = e ∷ []

abbrev pub IsOf : ℕ → Option WordEvent → Type 0
IsOf t None = Unit {0}
IsOf t (Some e) = e.thread ≡ t

-- the word events of a run, the earliest first, and the turns of one thread
abbrev pub word_events : List Turn → List WordEvent
word_events [] = []
word_events (turn ∷ earlier) = word_events earlier ++ event_list turn.event

abbrev pub turns_of : ℕ → List Turn → List Turn
turns_of t [] = []
turns_of t (turn ∷ earlier) = if nat_eq t turn.thread then turn ∷ turns_of t earlier else turns_of t earlier

-- the value at one place of a function
abbrev pub put : {A : Type 0} → (ℕ → A) → ℕ → A → ℕ → A
put f i v j = if nat_eq j i then v else f j

-- ---- a path of one thread from a state, given the results
abbrev pub state_after : {S E : Type 0} → OneThread S E → S → List Turn → S
state_after m s [] = s
state_after m s (turn ∷ earlier) = m.goes (state_after m s earlier) (result_of turn.event)

pub record IsNext {S E : Type 0} (m : OneThread S E) (s : S) (turn : Turn) : Type 0 where
  pub runs : m.runs s ≡ true
  pub asks : step_of turn.event ≡ m.asks s
  pub own : IsOf turn.thread turn.event

abbrev pub IsPath : {S E : Type 0} → OneThread S E → S → List Turn → Type 0
IsPath m s [] = Unit {0}
IsPath m s (turn ∷ earlier) = IsPath m s earlier × IsNext m (state_after m s earlier) turn

-- how many of its turns count as events
abbrev pub made_in : {S E : Type 0} → OneThread S E → S → List Turn → ℕ
made_in m s [] = 0
made_in m s (turn ∷ earlier) = made_in m s earlier + m.counts (state_after m s (turn ∷ earlier))

-- ---- the whole machine
pub record Global (S : Type 0) : Type 0 where
  pub words : List ℕ
  pub threads : ℕ → S
  pub started : ℕ → Bool
  pub made : ℕ → ℕ

-- the state word of a thread is 1
abbrev pub is_started : Bounds → List ℕ → ℕ → Bool
is_started b words t = nat_lt t b.threads && nat_eq (slice_index words (state_word t)) 1

abbrev pub opening_of : {S E : Type 0} → Bounds → OneThread S E → List ℕ → Global S
opening_of b m opening = record { words = opening; threads = m.start; started = is_started b opening; made = λ t. 0 }

-- ---- a checked run from a place: a legal history, with a path of each thread
-- it was started at the place, or its state word was 1 since
abbrev pub was_started : {S : Type 0} → Bounds → Global S → ℕ → List Turn → Bool
was_started b from t [] = from.started t
was_started b from t (turn ∷ earlier) =
    is_started b (words_after from.words (word_events (turn ∷ earlier))) t || was_started b from t earlier

pub record CheckedFrom {S E : Type 0} (b : Bounds) (m : OneThread S E) (from : Global S)
    (turns : List Turn) : Type 0 where
  pub legal : LegalHistory from.words (word_events turns)
  pub paths : (t : ℕ) → IsPath m (from.threads t) (turns_of t turns)
  pub begun : (later earlier : List Turn) (turn : Turn) → turns ≡ later ++ turn ∷ earlier
      → was_started b from turn.thread earlier ≡ true
  pub few : (t : ℕ) → from.made t + made_in m (from.threads t) (turns_of t turns) ≤ b.limit

abbrev pub CheckedRunOf : {S E : Type 0} → Bounds → OneThread S E → List ℕ → List Turn → Type 0
CheckedRunOf b m opening turns = CheckedFrom b m (opening_of b m opening) turns

-- ---- one turn
abbrev pub words_now : List ℕ → Option WordEvent → List ℕ
words_now words None = words
words_now words (Some e) = words_after_step words e.step

-- where the thread of a turn then is
abbrev pub state_now : {S E : Type 0} → OneThread S E → Global S → Turn → S
state_now m g turn = m.goes (g.threads turn.thread) (result_of turn.event)

abbrev pub made_now : {S E : Type 0} → OneThread S E → Global S → Turn → ℕ
made_now m g turn = g.made turn.thread + m.counts (state_now m g turn)

abbrev pub after_turn : {S E : Type 0} → Bounds → OneThread S E → Global S → Turn → Global S
after_turn b m g turn = record {
  words = words_now g.words turn.event;
  threads = put g.threads turn.thread (state_now m g turn);
  started = λ t. is_started b (words_now g.words turn.event) t || g.started t;
  made = put g.made turn.thread (made_now m g turn);
}

-- where a run is
abbrev pub at : {S E : Type 0} → Bounds → OneThread S E → Global S → List Turn → Global S
at b m from [] = from
at b m from (turn ∷ earlier) = after_turn b m (at b m from earlier) turn

-- what the words answer
abbrev pub Answered : List ℕ → Option WordEvent → Type 0
Answered words None = Unit {0}
Answered words (Some e) = MayFollow words e

-- the turn is one that can be made now
pub record MayTurn {S E : Type 0} (b : Bounds) (m : OneThread S E) (g : Global S) (turn : Turn) : Type 0 where
  pub started : g.started turn.thread ≡ true
  pub next : IsNext m (g.threads turn.thread) turn
  pub answered : Answered g.words turn.event
  pub room : made_now m g turn ≤ b.limit

-- a run of the whole machine by turns
abbrev pub IsRun : {S E : Type 0} → Bounds → OneThread S E → Global S → List Turn → Type 0
IsRun b m from [] = Unit {0}
IsRun b m from (turn ∷ earlier) = IsRun b m from earlier × MayTurn b m (at b m from earlier) turn

-- ---- the source events of a run and of a path, the newest first
-- what the result of a turn is paired with, and what the turn reports
abbrev pub paired : {S E : Type 0} → OneThread S E → List (Said E) → Global S → Turn → ℕ
paired m says g turn = m.pairs says (g.threads turn.thread) (result_of turn.event)

abbrev pub told_by : {S E : Type 0} → OneThread S E → List (Said E) → Global S → Turn → Option E
told_by m says g turn = m.says (g.threads turn.thread) (result_of turn.event) (paired m says g turn)

abbrev pub erase : {S E : Type 0} → Bounds → OneThread S E → Global S → List Turn → List (Said E)
erase b m from [] = []
erase b m from (turn ∷ earlier) =
    with_told turn.thread (told_by m (erase b m from earlier) (at b m from earlier) turn) (erase b m from earlier)

abbrev pub said_by : {E : Type 0} → ℕ → List (Said E) → List (Said E)
said_by t [] = []
said_by t (said ∷ earlier) = if nat_eq t said.thread then said ∷ said_by t earlier else said_by t earlier

-- what the turns of one thread were paired with
abbrev pub pairs_of : {S E : Type 0} → Bounds → OneThread S E → Global S → ℕ → List Turn → List ℕ
pairs_of b m from t [] = []
pairs_of b m from t (turn ∷ earlier) =
    if nat_eq t turn.thread then paired m (erase b m from earlier) (at b m from earlier) turn
    ∷ pairs_of b m from t earlier else pairs_of b m from t earlier

-- the events of a path, given what its turns are paired with
abbrev pub path_says : {S E : Type 0} → OneThread S E → ℕ → S → List Turn → List ℕ → List (Said E)
path_says m t s [] ps = []
path_says m t s (turn ∷ earlier) [] = []
path_says m t s (turn ∷ earlier) (p ∷ ps) =
    with_told t (m.says (state_after m s earlier) (result_of turn.event) p) (path_says m t s earlier ps)

-- ---- the turn of a thread is determined by the place
abbrev pub made_event : ℕ → List ℕ → Option WordStep → Option WordEvent
made_event t words None = None
made_event t words (Some step) = Some (event_of t step (slice_index words step.word))

abbrev pub turn_by : {S E : Type 0} → OneThread S E → Global S → ℕ → Turn
turn_by m g t = turn_with t (made_event t g.words (m.asks (g.threads t)))

-- the run of a schedule, the newest first
abbrev pub scheduled : {S E : Type 0} → Bounds → OneThread S E → Global S → List ℕ → List Turn
scheduled b m from [] = []
scheduled b m from (t ∷ ts) = turn_by m (at b m from (scheduled b m from ts)) t ∷ scheduled b m from ts

abbrev pub threads_of : List Turn → List ℕ
threads_of [] = []
threads_of (turn ∷ earlier) = turn.thread ∷ threads_of earlier

-- ---- paths of threads, whose word events are the parts of one history
abbrev pub Owns : ℕ → List Turn → Type 0
Owns t [] = Unit {0}
Owns t (turn ∷ earlier) = (turn.thread ≡ t) × Owns t earlier

pub record Parts (n : ℕ) (paths : ℕ → List Turn) (history : List WordEvent) : Type 0 where
  pub events : (t : ℕ) → word_events (paths t) ≡ events_of t history
  pub few : (t : ℕ) → n ≤ t → paths t ≡ []
  pub own : (t : ℕ) → Owns t (paths t)

-- threads that are started go on from a place, their events being parts of one legal history from the words there
pub record Round {S E : Type 0} (b : Bounds) (m : OneThread S E) (from : Global S) (paths : ℕ → List Turn)
    (history : List WordEvent) : Type 0 where
  pub legal : LegalHistory from.words history
  pub goes : (t : ℕ) → IsPath m (from.threads t) (paths t)
  pub started : (t : ℕ) → paths t ≢ [] → from.started t ≡ true
  pub room : (t : ℕ) → from.made t + made_in m (from.threads t) (paths t) ≤ b.limit
