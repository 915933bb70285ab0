-- What the text of a function means: the events that a thread of it asks for.
use Rattle.std.specs.Prelude.{ℕ, ℤ, zero, suc, pos, ◌+◌, nat_lt, not, List, [], ◌∷◌, length, count_by, Option, Some}
use Rattle.std.specs.Prelude.{None}
use Rattle.sharc_tree.specs.declared.event.Act.TheVariants as acts
use Rattle.sharc_tree.specs.{declared.event.SourceEvent.SourceEvent, declared.token.Site.Site}
use Rattle.sharc_tree.specs.{declared.tree.declaration.Declaration.Declaration, Tree.Function}
use Rattle.sharc_tree.specs.declared.trap.Trap.TheVariants as traps
use Rattle.sharc_names.specs.Kinds.{is_pointer, declared_kind}
use Rattle.sharc_ctype.specs.Resolved.{function_at}
use Rattle.sharc_mode.specs.Moded.{Assignment}
use Rattle.sharc_meaning.specs.{declared.given.GivenUp.GivenUp, Events.held_mutexes}
use Rattle.sharc_meaning.specs.State.{Frame, Traced, State, Outcome, ended, Out, go, over, Run, Step, ◌>>=◌, ◌>>◌, give}
use Rattle.sharc_meaning.specs.State.{done, stop, unless_stop, entered, performs, without_temporaries, looks_at}
use Rattle.sharc_meaning.specs.State.{begins_with, in_block, held_references}
use Rattle.sharc_meaning.specs.{Expressions.Calls, Statements.{Flow, returned, exec_all}}

-- ---- calls and threads

-- each parameter with its argument, where there is one, else with 0 or NULL
abbrev pub parameters_begin : List Declaration → List ℤ → Step
parameters_begin [] vs = done
parameters_begin (d ∷ rest) [] = do
  begins_with d (pos 0)
  parameters_begin rest []
parameters_begin (d ∷ rest) (v ∷ vs) = do
  begins_with d v
  parameters_begin rest vs

-- Where a body is left, and with which value: at a `return`, or at its closing brace with 0 or NULL.
abbrev pub left_at : Function → Flow → Site × ℤ
left_at f (returned site v) = (site, v)
left_at f _ = (f.body.last, pos 0)

-- the temporaries that held the arguments become the parameters
abbrev pub pointers_passed : Function → ℕ
pointers_passed f = count_by (λ d. is_pointer (declared_kind d.written)) f.parameters

abbrev pub with_frame : Frame → State → State
with_frame caller s = record s {
  frame = record { call = s.calls; variables = []; temporaries = [] };
  callers = caller ∷ s.callers;
  calls = s.calls + 1;
}

abbrev pub back_in : {A : Type 0} → Frame → List Frame → Out A → Out A
back_in caller others (go x s) = go x (record s { frame = caller; callers = others })
back_in caller others (over o s) = over o s

abbrev pub in_frame : {A : Type 0} → ℕ → Run A → Run A
in_frame moved m s =
    let caller = without_temporaries moved s.frame in
    back_in caller s.callers (m (with_frame caller s))

-- parameters and the outermost block of the body are one block
abbrev pub run_function : Calls → Assignment → Function → List ℤ → Run (Site × ℤ)
run_function on_call m f vs = in_frame (pointers_passed f) (in_block (do
  parameters_begin f.parameters vs
  flow ← entered (exec_all on_call m (declared_kind f.result) f.statements)
  give (left_at f flow)))

abbrev pub call_value : Calls → Assignment → Option Function → List ℤ → Run ℤ
call_value on_call m None vs = give (pos 0)
call_value on_call m (Some f) vs = do
  left ← run_function on_call m f vs
  give left.1

-- a call where this many more frames are allowed
abbrev pub calls : Assignment → ℕ → Calls
calls m zero f site vs = stop traps.CallDepth site
calls m (suc n) f site vs = call_value (calls m n) m (function_at m.typed f) vs

-- A thread returns where it holds no mutex, and is then gone: both are at the name of its function, and the stop where
-- the body was left.
abbrev pub goes_away : Site → Site → Step
goes_away name site = do
  own ← looks_at (λ s. s.events)
  unless_stop (not (nat_lt 0 (length (held_mutexes own)))) traps.ReturnWithLockHeld site
  performs name acts.Return
  performs name acts.Gone

-- a thread has at most 256 frames, of which that of its function is one; the value is not used
abbrev pub run_thread : Assignment → Option Function → ℤ → Step
run_thread m None v = done
run_thread m (Some f) v = do
  left ← run_function (calls m 255) m f (v ∷ [])
  goes_away f.name.site left.0

-- ---- what a thread asks for

-- its events after Started, how far it came, what it holds there, what it gave up since its last event, and what it did
-- with variables
pub record Asked : Type 0 where
  pub events : List SourceEvent
  pub outcome : Outcome
  pub held : List ℤ
  pub given_up : List GivenUp
  pub trace : List Traced

abbrev pub asked_at : Outcome → State → Asked
asked_at o s =
    record { events = s.events; outcome = o; held = held_references s; given_up = s.given_up; trace = s.trace }

abbrev pub asked_by : {A : Type 0} → Out A → Asked
asked_by (go x s) = asked_at ended s
asked_by (over o s) = asked_at o s

abbrev pub no_frame : Frame
no_frame = record { call = 0; variables = []; temporaries = [] }

abbrev pub start : List ℤ → ℕ → State
start answers fuel = record {
  frame = no_frame;
  callers = [];
  answers = answers;
  events = [];
  fuel = fuel;
  calls = 0;
  given_up = [];
  trace = [];
}

-- of a thread with this function and argument, by these answers and with this fuel
abbrev pub asks : Assignment → ℕ → ℤ → List ℤ → ℕ → Asked
asks m f v answers fuel = asked_by (run_thread m (function_at m.typed f) v (start answers fuel))
