-- A thread on its way through its text: what it has, and the few things that it does, of which its meaning is made.
use Rattle.std.specs.Prelude.{ℕ, zero, suc, ℤ, pos, ◌==◌, ◌-◌, Bool, true, false, ◌||◌, List, [], ◌∷◌, ◌++◌, length}
use Rattle.std.specs.Prelude.{take, drop, map, reverse, flat_map, if◌then◌else◌}
use Rattle.sharc_tree.specs.{declared.event.Act.Act, declared.event.Act.TheVariants.{Read, New, Take, Spawn, Signal}}
use Rattle.sharc_tree.specs.{declared.event.Taken.TheVariants.{Cell, Local}, declared.event.CellAt.CellAt}
use Rattle.sharc_tree.specs.{declared.event.SourceEvent.SourceEvent, declared.token.Site.Site}
use Rattle.sharc_tree.specs.{declared.tree.declaration.Declaration.Declaration, declared.trap.Trap.Trap}
use Rattle.sharc_names.specs.Kinds.{Kind, is_pointer, is_null, declared_kind}
use Rattle.sharc_meaning.specs.{declared.given.GivenUp.GivenUp, declared.given.GivenUp.TheVariants.Released}
use Rattle.sharc_meaning.specs.{declared.variable.Variable.Variable, Reference.number_of}

-- ---- what it has

-- the frame of a call: the number of the call, the variables that exist, in the order of their declarations, and the
-- pointers that temporaries hold
pub record Frame : Type 0 where
  pub call : ℕ
  pub variables : List Variable
  pub temporaries : List ℤ

abbrev pub all_released : List ℤ → List GivenUp
all_released = map (λ r. Released (number_of r))

-- what is done with a variable, where, and in which call
pub data Use : Type 0 where
  reads : Use
  writes : Use
  nulls : Use

pub record Traced : Type 0 where
  pub use_made : Use
  pub variable : ℕ
  pub site : Site
  pub call : ℕ

-- The frame of the innermost call, and those of its callers, the nearest first; the answers that are left, the events
-- so far, and how many statements and expressions may still be entered; how many calls were made; what was given up
-- since the last event; and what was done with variables.
pub record State : Type 0 where
  pub frame : Frame
  pub callers : List Frame
  pub answers : List ℤ
  pub events : List SourceEvent
  pub fuel : ℕ
  pub calls : ℕ
  pub given_up : List GivenUp
  pub trace : List Traced

-- ---- runs

-- how it comes to an end: it wants an event for which there is no answer, it is gone, it is stopped by a trap, or the
-- fuel is spent
pub data Outcome : Type 0 where
  wants : SourceEvent → Outcome
  ended : Outcome
  stopped : Trap → Site → Outcome
  spent : Outcome

-- a run goes on with a value, or is over
pub data Out (A : Type 0) : Type 0 where
  go : A → State → Out A
  over : Outcome → State → Out A

abbrev pub Run : Type 0 → Type 0
Run A = State → Out A

abbrev pub Step : Type 0
Step = Run (Unit {0})

abbrev pub then_on : {A B : Type 0} → Out A → (A → Run B) → Out B
then_on (go x s) f = f x s
then_on (over o s) f = over o s

-- a run, and with its value another one

infixl 10 ◌>>=◌
abbrev pub ◌>>=◌ : {A B : Type 0} → Run A → (A → Run B) → Run B
(m >>= f) s = then_on (m s) f

infixl 10 ◌>>◌
abbrev pub ◌>>◌ : {A B : Type 0} → Run A → Run B → Run B
(m >> n) s = then_on (m s) (λ x. n)

abbrev pub give : {A : Type 0} → A → Run A
give x s = go x s

abbrev pub done : Step
done s = go tt s

abbrev pub stop : {A : Type 0} → Trap → Site → Run A
stop trap site s = over (stopped trap site) s

-- it stops with this trap unless the test is met
abbrev pub unless_stop : Bool → Trap → Site → Step
unless_stop true trap site = done
unless_stop false trap site = stop trap site

-- one more statement or expression is entered

abbrev pub enters_with : ℕ → Step
enters_with zero s = over spent s
enters_with (suc n) s = go tt (record s { fuel = n })

abbrev pub enters : Step
enters s = enters_with s.fuel s

abbrev pub entered : {A : Type 0} → Run A → Run A
entered m = do
  enters
  m

-- ---- events

-- what a variable holds
abbrev pub value_in : List Variable → ℕ → ℤ
value_in [] token = pos 0
value_in (x ∷ rest) token = if x.token == token then x.value else value_in rest token

abbrev pub event_of : Site → Act → ℤ → SourceEvent
event_of site act answer = record { thread = 0; site = site; answer = answer; act = act }

-- What an event answers, by what the list says and what the variables hold: a Read, a New, a Take of a cell, a Spawn
-- and a Signal what the list says, a Take of a local the reference that it holds, and every other event 0.
abbrev pub answer_of : (ℕ → ℤ) → Act → ℤ → ℤ
answer_of held (Read c mode) x = x
answer_of held (New cells elements mode) x = x
answer_of held (Take (Cell c mode) kind) x = x
answer_of held (Take (Local token) kind) x = held token
answer_of held (Spawn f v) x = x
answer_of held (Signal c) x = x
answer_of held _ x = pos 0

-- An event uses up the next answer of the list. Where there is none, the thread wants the event.

abbrev pub happens : List ℤ → Site → Act → Run ℤ
happens [] site act s = over (wants (event_of site act (pos 0))) s
happens (x ∷ rest) site act s =
    let answer = answer_of (value_in s.frame.variables) act x in
    go answer (record s { answers = rest; events = s.events ++ event_of site act answer ∷ []; given_up = [] })

-- an event with its answer, and one that answers nothing

abbrev pub answered : Site → Act → Run ℤ
answered site act s = happens s.answers site act s

abbrev pub performs : Site → Act → Step
performs site act = do
  answered site act
  done

-- ---- references that are held, and given up

-- what may be NULL, the constant itself too
abbrev pub is_reference : Kind → Bool
is_reference kind = is_pointer kind || is_null kind

abbrev pub gives_up : List GivenUp → Step
gives_up more s = go tt (record s { given_up = s.given_up ++ more })

-- a value of this type is used no more
abbrev pub drops : Kind → ℤ → Step
drops kind v = if is_reference kind then gives_up (all_released (v ∷ [])) else done

-- a temporary holds a value of this type, if it is a pointer
abbrev pub with_temporary : ℤ → Frame → Frame
with_temporary v f = record f { temporaries = f.temporaries ++ v ∷ [] }

abbrev pub holds_reference : ℤ → Step
holds_reference v s = go tt (record s { frame = with_temporary v s.frame })

abbrev pub holds : Kind → ℤ → Step
holds kind v = if is_reference kind then holds_reference v else done

-- the reference of the last temporary has gone elsewhere: it is not given up

abbrev pub without_temporaries : ℕ → Frame → Frame
without_temporaries n f = record f { temporaries = take (length f.temporaries - n) f.temporaries }

abbrev pub moves_on : ℕ → Step
moves_on n s = go tt (record s { frame = without_temporaries n s.frame })

abbrev pub moves : Kind → Step
moves kind = if is_reference kind then moves_on 1 else done

-- the temporaries of a run end with it

abbrev pub ends_temporaries : {A : Type 0} → ℕ → Out A → Out A
ends_temporaries n (go x s) = go x (record s {
  frame = record s.frame { temporaries = take n s.frame.temporaries };
  given_up = s.given_up ++ all_released (drop n s.frame.temporaries);
})
ends_temporaries n (over o s) = over o s

abbrev pub temporarily : {A : Type 0} → Run A → Run A
temporarily m s = ends_temporaries (length s.frame.temporaries) (m s)

-- ---- variables

abbrev pub with_value : List Variable → ℕ → ℤ → List Variable
with_value [] token v = []
with_value (x ∷ rest) token v = if x.token == token then record x { value = v } ∷ rest else x ∷ with_value rest token v

abbrev pub pointers_among : List Variable → List ℤ
pointers_among [] = []
pointers_among (x ∷ rest) = if x.is_pointer then x.value ∷ pointers_among rest else pointers_among rest

-- what a variable of the innermost call holds
abbrev pub value_of : State → ℕ → ℤ
value_of s token = value_in s.frame.variables token

abbrev pub looks_at : {A : Type 0} → (State → A) → Run A
looks_at f s = go (f s) s

abbrev pub traces : Use → ℕ → Site → Step
traces u token site s = go tt
    (record s { trace = s.trace ++ record { use_made = u; variable = token; site = site; call = s.frame.call } ∷ [] })

abbrev pub sets : ℕ → ℤ → Step
sets token v s = go tt (record s { frame = record s.frame { variables = with_value s.frame.variables token v } })

abbrev pub reads_variable : Site → ℕ → Run ℤ
reads_variable site token = do
  traces reads token site
  looks_at (λ s. value_of s token)

abbrev pub writes_variable : Site → ℕ → ℤ → Step
writes_variable site token v = do
  traces writes token site
  sets token v

-- a variable exists from its declaration on, first with 0 or NULL

abbrev pub new_variable : Declaration → ℤ → Variable
new_variable d v = record { token = d.name.site.token; is_pointer = is_pointer (declared_kind d.written); value = v }

abbrev pub stands : Variable → Step
stands x s = go tt (record s { frame = record s.frame { variables = s.frame.variables ++ x ∷ [] } })

abbrev pub begins_with : Declaration → ℤ → Step
begins_with d v = do
  stands (new_variable d v)
  traces writes d.name.site.token d.name.site

-- the variables of a block end with it, however it is left

abbrev pub ends_variables : {A : Type 0} → ℕ → Out A → Out A
ends_variables n (go x s) = go x (record s {
  frame = record s.frame { variables = take n s.frame.variables };
  given_up = s.given_up ++ all_released (pointers_among (drop n s.frame.variables));
})
ends_variables n (over o s) = over o s

abbrev pub in_block : {A : Type 0} → Run A → Run A
in_block m s = ends_variables (length s.frame.variables) (m s)

-- ---- what a thread holds: the variables and the temporaries of its frames, the outermost first

abbrev pub held_by_frame : Frame → List ℤ
held_by_frame f = pointers_among f.variables ++ f.temporaries

abbrev pub held_references : State → List ℤ
held_references s = flat_map held_by_frame (reverse s.callers) ++ held_by_frame s.frame
