-- What flat code does: what a turn leads to, and what a thread asks for by a list of answers.
use Rattle.std.specs.Prelude.{ℕ, zero, suc, ℤ, pos, negsuc, ◌+◌, ◌-◌, ◌*◌, ◌==◌, Bool, true, false, not, List, [], ◌∷◌}
use Rattle.std.specs.Prelude.{◌++◌, length, slice_get, slice_index_or, Option, Some, None, Result, Ok, Err, nat_lt}
use Rattle.std.specs.Prelude.{if◌then◌else◌}
use Rattle.sharc_tree.specs.{declared.event.Act.Act, declared.event.CellAt.CellAt, declared.event.CellMode.CellMode}
use Rattle.sharc_tree.specs.{declared.event.SourceEvent.SourceEvent, declared.event.TakeKind.TakeKind}
use Rattle.sharc_tree.specs.{declared.token.Site.Site, declared.trap.Trap.Trap}
use Rattle.sharc_tree.specs.declared.event.Act.TheVariants as acts
use Rattle.sharc_tree.specs.declared.event.CellMode.TheVariants as modes
use Rattle.sharc_tree.specs.declared.event.Object.TheVariants as objects
use Rattle.sharc_tree.specs.declared.event.Taken.TheVariants as taken
use Rattle.sharc_tree.specs.declared.event.TakeKind.TheVariants as kinds
use Rattle.sharc_tree.specs.declared.trap.Trap.TheVariants as traps
use Rattle.sharc_code.specs.{declared.code.Function.Function, declared.code.GlobalCells.GlobalCells}
use Rattle.sharc_code.specs.declared.code.PlaceMode.{PlaceMode}
use Rattle.sharc_code.specs.declared.code.PlaceMode.TheVariants.{Private, Readonly, Racy, Dynamic, LockedGlobal}
use Rattle.sharc_code.specs.declared.code.PlaceMode.TheVariants.{LockedSibling, LockedThrough, LockedLoaded}
use Rattle.sharc_code.specs.{declared.code.Parameter.Parameter, declared.code.Use.Use, declared.instr.Cell.Cell}
use Rattle.sharc_code.specs.declared.instr.Register.{Register}
use Rattle.sharc_code.specs.{Arithmetic.{word_of, computed, negated, complement, holds, truth}, Says.no_global}
use Rattle.sharc_code.specs.Machine.{no_function, elements_of as elements_made}
use Rattle.sharc_code.specs.declared.code.Parameter.TheVariants as parameters
use Rattle.sharc_code.specs.declared.code.Use.TheVariants as uses
use Rattle.sharc_code.specs.declared.instr.Cell.TheVariants as cells
use Rattle.sharc_code.specs.declared.instr.Register.TheVariants as registers
use Rattle.sharc_meaning.specs.declared.given.GivenUp.{GivenUp}
use Rattle.sharc_meaning.specs.declared.given.GivenUp.TheVariants.{Released, Replaced, Emptied}
use Rattle.sharc_meaning.specs.{Arithmetic.{is_zero, is_equal}, Cells.{cell_of, through}}
use Rattle.sharc_meaning.specs.{Events.{held_mutexes, holds_mutex}, Reference.{is_null, number_of, elements_of}}
use Rattle.sharc_meaning.specs.State.{Outcome, wants, ended, stopped, spent, event_of, answer_of}
use Rattle.sharc_meaning.specs.Statements.{is_positive}
use Rattle.sharc_flat.specs.{declared.flat.LineTexts.LineTexts, declared.op.Op.Op, declared.op.Spot.Spot}
use Rattle.sharc_flat.specs.declared.op.Op.TheVariants as op

-- the statements of all functions, with where their texts lie, which no turn looks at; the functions and the globals by
-- their numbers
pub record Flat : Type 0 where
  pub lines : List Op
  pub told : List LineTexts
  pub functions : List Function
  pub globals : List GlobalCells

-- where a caller goes on, and its frame's first registers
pub record Caller : Type 0 where
  pub pc : ℕ
  pub ints : ℕ
  pub refs : ℕ

-- A thread between two turns: its place, the frame's first registers, the thread's two banks, the callers, the pointer
-- to a mutex that was read last, its function, its events so far, and what it gave up since the last one. A reference
-- is the source's: an object's number with its elements.
pub record At : Type 0 where
  pub pc : ℕ
  pub int_base : ℕ
  pub ref_base : ℕ
  pub ints : ℕ → ℤ
  pub refs : ℕ → ℤ
  pub frames : List Caller
  pub pending : ℤ
  pub function : ℕ
  pub events : List SourceEvent
  pub given : List GivenUp

-- A turn goes on, or asks for an event, at this place with what the named local holds, and goes on with the answer from
-- where the event has come, or it is the end.
pub data Turn : Type 0 where
  goes : At → Turn
  asks : At → Site → Act → ℤ → (ℤ → At → At) → Turn
  halts : Outcome → Turn

abbrev pub put : (ℕ → ℤ) → ℕ → ℤ → ℕ → ℤ
put bank r v k = if k == r then v else bank k

-- ---- registers
abbrev pub int : At → ℕ → ℤ
int m i = m.ints (m.int_base + i)

abbrev pub ref : At → ℕ → ℤ
ref m r = m.refs (m.ref_base + r)

abbrev pub set_int : ℕ → ℤ → At → At
set_int i v m = record m { ints = put m.ints (m.int_base + i) v }

abbrev pub set_ref : ℕ → ℤ → At → At
set_ref r v m = record m { refs = put m.refs (m.ref_base + r) v }

abbrev pub gives_up : GivenUp → At → At
gives_up what m = record m { given = m.given ++ what ∷ [] }

-- the reference of this register is given up
abbrev pub popped : ℕ → At → At
popped r m = gives_up (Released (number_of (ref m r))) (set_ref r (pos 0) m)

-- it goes to the first from the second
abbrev pub moved : ℕ → ℕ → At → At
moved r from m = set_ref r (ref m from) (set_ref from (pos 0) m)

abbrev pub settled : ℕ → ℕ → At → At
settled x from m = gives_up (Released (number_of (ref m x))) (moved x from m)

-- ---- going on
abbrev pub next : At → At
next m = record m { pc = m.pc + 1 }

abbrev pub over_lines : ℕ → At → At
over_lines n m = record m { pc = m.pc + 1 + n }

abbrev pub goes_on : At → Turn
goes_on m = goes (next m)

abbrev pub stops : Trap → Spot → Turn
stops trap spot = halts (stopped trap spot.site)

abbrev pub asserts : Bool → Trap → Spot → At → Turn
asserts b trap spot m = if b then goes_on m else stops trap spot

abbrev pub with_result : ℕ → Spot → At → Result ℤ Trap → Turn
with_result i spot m (Ok v) = goes_on (set_int i v m)
with_result i spot m (Err trap) = stops trap spot

-- ---- cells and their modes
-- the first cell of a global, counted from the first cell of granule 0
abbrev pub first_cell : List GlobalCells → ℕ → ℕ
first_cell globals g = 2 * (slice_index_or globals g no_global).granule

abbrev pub global_cell : List GlobalCells → ℕ → ℕ → CellAt
global_cell globals g place = cell_of (objects.Global g) (place - first_cell globals g)

abbrev pub cell_at : List GlobalCells → At → Cell → CellAt
cell_at globals m (cells.Global g place) = global_cell globals g place
cell_at globals m (cells.GlobalAt g i) = global_cell globals g (word_of (int m i))
cell_at globals m (cells.Object r n) = cell_of (objects.Made (number_of (ref m r))) n
cell_at globals m (cells.ObjectAt r i) = cell_of (objects.Made (number_of (ref m r))) (word_of (int m i))

-- the reference that a cell's register holds; none for a global
abbrev pub base_of : At → Cell → ℤ
base_of m (cells.Global g place) = pos 0
base_of m (cells.GlobalAt g i) = pos 0
base_of m (cells.Object r n) = ref m r
base_of m (cells.ObjectAt r i) = ref m r

abbrev pub without_base : Cell → At → At
without_base (cells.Global g place) m = m
without_base (cells.GlobalAt g i) m = m
without_base (cells.Object r n) m = set_ref r (pos 0) m
without_base (cells.ObjectAt r i) m = set_ref r (pos 0) m

-- the mutex of a place, if its mode is locked and the path does not lead through NULL
abbrev pub is_of_null : At → Cell → Bool
is_of_null m (cells.Global g place) = false
is_of_null m (cells.GlobalAt g i) = false
is_of_null m (cells.Object r n) = is_null (ref m r)
is_of_null m (cells.ObjectAt r i) = is_null (ref m r)

-- the path of the lock of a place leads through NULL
abbrev pub lock_is_null : At → Spot → PlaceMode → Bool
lock_is_null m spot (LockedSibling field mutex) = is_of_null m spot.lock
lock_is_null m spot (LockedThrough r place) = is_null (ref m r)
lock_is_null m spot LockedLoaded = is_null m.pending
lock_is_null m spot _ = false

-- the mode of a place
abbrev pub cell_mode_of : List GlobalCells → At → CellAt → PlaceMode → CellMode
cell_mode_of globals m c Private = modes.Private
cell_mode_of globals m c Readonly = modes.Readonly
cell_mode_of globals m c Racy = modes.Racy
cell_mode_of globals m c Dynamic = modes.Dynamic
cell_mode_of globals m c (LockedGlobal g place) = modes.Locked (Some (global_cell globals g place))
cell_mode_of globals m c (LockedSibling field mutex) =
    modes.Locked (Some record { object = c.object; cell = c.cell - field + mutex })
cell_mode_of globals m c (LockedThrough r place) = modes.Locked (through (ref m r) place)
cell_mode_of globals m c LockedLoaded = modes.Locked (through m.pending 0)

-- the mode of an object that is made or given
abbrev pub instance_mode : List GlobalCells → At → PlaceMode → CellMode
instance_mode globals m mode = cell_mode_of globals m (cell_of (objects.Made 0) 0) mode

-- after an access nothing is left of what was read for its lock
abbrev pub accessed : At → At
accessed m = record m { pending = pos 0 }

-- an access of a cell: what is asked for, and what comes with the answer
abbrev pub accesses : List GlobalCells → Cell → Spot → (CellAt → CellMode → Act) → (CellAt → ℤ → At → At) → At → Turn
accesses globals cell spot act then_ m =
    if lock_is_null m spot spot.mode then stops traps.NullPointer spot
    else asks m spot.site
    (act (cell_at globals m cell) (cell_mode_of globals m (cell_at globals m cell) spot.mode)) (pos 0)
    (λ v n. accessed (next (then_ (cell_at globals m cell) v n)))

-- what asks for an event of no cell's access
abbrev pub event : Spot → Act → (ℤ → At → At) → At → Turn
event spot act then_ m = asks m spot.site act (pos 0) (λ v n. next (then_ v n))

-- ---- indexes
abbrev pub indexed : ℕ → ℕ → ℕ → ℤ → ℕ → Spot → At → Turn
indexed i cells field (pos n) elements spot m =
    if nat_lt n elements then goes_on (set_int i (pos (n * cells + field)) m) else stops traps.IndexOutOfBounds spot
indexed i cells field (negsuc n) elements spot m = stops traps.IndexOutOfBounds spot

-- ---- what is taken
abbrev pub take_kind_of : Use → TakeKind
take_kind_of (uses.Free variable) = kinds.Free
take_kind_of (uses.Cast variable) = kinds.Cast
take_kind_of uses.Read = kinds.Cast
take_kind_of uses.Write = kinds.Cast
take_kind_of uses.Other = kinds.Cast

abbrev pub variable_of : Use → ℕ
variable_of (uses.Cast (Some variable)) = variable
variable_of (uses.Free (Some variable)) = variable
variable_of _ = 0

-- NULL asks for nothing
abbrev pub takes_local : ℕ → ℕ → Spot → At → Bool → Turn
takes_local r x spot m true = goes_on (moved r x m)
takes_local r x spot m false = asks m spot.site (acts.Take (taken.Local (variable_of spot.at)) (take_kind_of spot.at))
    (ref m x) (λ v n. next (moved r x n))

-- ---- calls
abbrev pub function_of : Flat → ℕ → Function
function_of flat f = slice_index_or flat.functions f no_function

abbrev pub called : Flat → ℕ → ℕ → ℕ → At → At
called flat f ints refs m = record m {
  pc = (function_of flat f).entry;
  int_base = m.int_base + ints;
  ref_base = m.ref_base + refs;
  frames = record { pc = m.pc + 1; ints = m.int_base; refs = m.ref_base } ∷ m.frames;
}

-- Back to the caller. A thread that holds no mutex goes past the last line: there it returns, and is then gone.
abbrev pub returned : Flat → List Caller → Spot → At → Turn
returned flat [] spot m =
    if not (nat_lt 0 (length (held_mutexes m.events))) then goes (record m { pc = length flat.lines })
    else stops traps.ReturnWithLockHeld spot
returned flat (c ∷ rest) spot m = goes (record m { pc = c.pc; int_base = c.ints; ref_base = c.refs; frames = rest })

-- ---- threads
abbrev pub argument : At → Register → ℤ
argument m (registers.Int i) = int m i
argument m (registers.Reference r) = ref m r

abbrev pub handed : Register → At → At
handed (registers.Int i) m = m
handed (registers.Reference r) m = set_ref r (pos 0) m

-- ---- one statement
abbrev pub op_turn : Flat → Op → At → Turn
op_turn flat op.Enter m = goes_on m
op_turn flat (op.Constant i v) m = goes_on (set_int i v m)
op_turn flat (op.Move i from) m = goes_on (set_int i (int m from) m)
op_turn flat (op.Compute width o i a b spot) m = with_result i spot m (computed width o (int m a) (int m b))
op_turn flat (op.Negate width i a spot) m = with_result i spot m (negated width (int m a))
op_turn flat (op.Complement i a) m = goes_on (set_int i (complement (int m a)) m)
op_turn flat (op.IsFalse i a) m = goes_on (set_int i (truth (is_zero (int m a))) m)
op_turn flat (op.SameReference i a b) m = goes_on (set_int i (truth (is_equal (ref m a) (ref m b))) m)
op_turn flat (op.ChkWidth width i spot) m = asserts (holds width (int m i)) traps.OutOfRange spot m
op_turn flat (op.Skip n) m = goes (over_lines n m)
op_turn flat (op.SkipIfZero i n) m = goes (if is_zero (int m i) then over_lines n m else next m)
op_turn flat (op.SkipIfNull r n) m = goes (if is_null (ref m r) then over_lines n m else next m)
op_turn flat (op.Jump to) m = goes (record m { pc = to })
op_turn flat (op.Call f ints refs spot) m =
    if nat_lt (length m.frames) 255 then goes (called flat f ints refs m) else stops traps.CallDepth spot
op_turn flat (op.Return spot) m = returned flat m.frames spot m
op_turn flat op.BlockEnd m = goes_on m
op_turn flat (op.Null r) m = goes_on (set_ref r (pos 0) m)
op_turn flat (op.Local r x) m = goes_on (set_ref r (ref m x) m)
op_turn flat (op.MoveReference r from) m = goes_on (moved r from m)
op_turn flat (op.Pop r) m = goes_on (popped r m)
op_turn flat (op.Settle x from) m = goes_on (settled x from m)
op_turn flat (op.ChkNull r spot) m = asserts (not (is_null (ref m r))) traps.NullPointer spot m
op_turn flat (op.ChkPositive i spot) m = asserts (is_positive (int m i)) traps.SizeNotPositive spot m
op_turn flat (op.ChkHeld cell spot) m =
    asserts (holds_mutex m.events (cell_at flat.globals m cell)) traps.MutexNotHeld spot m
op_turn flat (op.ChkNotHeld cell spot) m =
    asserts (not (holds_mutex m.events (cell_at flat.globals m cell))) traps.MutexAlreadyHeld spot m
op_turn flat (op.ChkRoom spot) m = asserts (nat_lt (length (held_mutexes m.events)) 16) traps.TooManyLocks spot m
op_turn flat (op.Bounds i r cells field spot) m = indexed i cells field (int m i) (elements_of (ref m r)) spot m
op_turn flat (op.GlobalBounds i elements cells field spot) m = indexed i cells field (int m i) elements spot m
op_turn flat (op.Load i cell spot) m = accesses flat.globals cell spot acts.Read (λ c v. set_int i v) m
op_turn flat (op.Store i cell spot) m =
    accesses flat.globals cell spot (λ c mode. acts.Write c mode (int m i)) (λ c v n. n) m
op_turn flat (op.LoadRef r cell spot) m = accesses flat.globals cell spot acts.Read (λ c v. set_ref r v) m
op_turn flat (op.StoreRef r cell spot) m = accesses flat.globals cell spot (λ c mode. acts.Write c mode (ref m r))
    (λ c v n. gives_up (Replaced c) (set_ref r (pos 0) n)) m
op_turn flat (op.LoadGuard cell spot) m =
    event spot (acts.Read (cell_at flat.globals m cell) modes.Readonly) (λ v n. record n { pending = v }) m
op_turn flat (op.New r count cells spot) m =
    event spot (acts.New cells (elements_made (int m count)) (instance_mode flat.globals m spot.mode)) (set_ref r) m
op_turn flat (op.TakeCell r cell spot) m =
    accesses flat.globals cell spot
    (λ c mode. acts.Take (taken.Cell c mode) (take_kind_of spot.at)) (λ c v. set_ref r v) m
op_turn flat (op.TakeLocal r x spot) m = takes_local r x spot m (is_null (ref m x))
op_turn flat (op.Give r cells spot) m =
    event spot (acts.Give (ref m r) (instance_mode flat.globals m spot.mode)) (λ v n. n) m
op_turn flat (op.Free r layout spot) m =
    event spot (acts.Freed (ref m r)) (λ v. set_ref r (pos 0)) (gives_up (Emptied (number_of (ref m r))) m)
op_turn flat (op.Lock cell spot) m = event spot (acts.Lock (cell_at flat.globals m cell)) (λ v. without_base cell) m
op_turn flat (op.Unlock r cell spot) m =
    event spot (acts.Unlock (cell_at flat.globals m cell)) (λ v n. set_ref r (base_of n cell) n) m
op_turn flat (op.CondEnter cell spot) m = event spot (acts.Enter (cell_at flat.globals m cell)) (λ v n. n) m
op_turn flat (op.CondWait cell spot) m = event spot (acts.Woken (cell_at flat.globals m cell)) (λ v n. n) m
op_turn flat (op.CondSignal cell spot) m = event spot (acts.Signal (cell_at flat.globals m cell)) (λ v n. n) m
op_turn flat (op.CondBroadcast cell spot) m = event spot (acts.Broadcast (cell_at flat.globals m cell)) (λ v n. n) m
op_turn flat (op.Spawn i f from spot) m =
    event spot (acts.Spawn f (argument m from)) (λ v n. set_int i v (handed from n)) m
op_turn flat (op.Join i spot) m = event spot (acts.Join (int m i)) (λ v n. n) m
op_turn flat (op.Print i spot) m = event spot (acts.Print (int m i)) (λ v n. n) m

-- past the last line the thread returns, then it is gone, and then that is the end
abbrev pub end_turn : Flat → At → ℕ → Turn
end_turn flat m zero = asks m (function_of flat m.function).site acts.Return (pos 0) (λ v n. next n)
end_turn flat m (suc zero) = asks m (function_of flat m.function).site acts.Gone (pos 0) (λ v n. next n)
end_turn flat m (suc (suc n)) = halts ended

abbrev pub line_turn : Flat → Option Op → At → Turn
line_turn flat None m = end_turn flat m (m.pc - length flat.lines)
line_turn flat (Some o) m = op_turn flat o m

abbrev pub turn : Flat → At → Turn
turn flat m = line_turn flat (slice_get flat.lines m.pc) m

-- ---- what it asks for
-- how it comes to an end, and where it is then
pub record Came : Type 0 where
  pub outcome : Outcome
  pub at : At

abbrev pub came : Outcome → At → Came
came o m = record { outcome = o; at = m }

abbrev pub with_event : SourceEvent → At → At
with_event e m = record m { events = m.events ++ e ∷ []; given = [] }

abbrev pub on_answer : List ℤ → At → Site → Act → ℤ → (ℤ → At → At) → (List ℤ → At → Came) → Came
on_answer [] m site act held f go = came (wants (event_of site act (pos 0))) m
on_answer (x ∷ rest) m site act held f go =
    let answer = answer_of (λ token. held) act x in go rest (f answer (with_event (event_of site act answer) m))

abbrev pub on_turn : Turn → List ℤ → At → (List ℤ → At → Came) → Came
on_turn (goes m2) answers m go = go answers m2
on_turn (asks m2 site act held f) answers m go = on_answer answers m2 site act held f go
on_turn (halts o) answers m go = came o m

-- at most this many turns
abbrev pub exec : Flat → ℕ → List ℤ → At → Came
exec flat zero answers m = came spent m
exec flat (suc n) answers m = on_turn (turn flat m) answers m (exec flat n)

-- a thread's start in a function, with its argument in the first register of the parameter's bank
abbrev pub begun : Parameter → ℤ → At → At
begun parameters.None v m = m
begun parameters.Int v m = set_int 0 v m
begun parameters.Reference v m = set_ref 0 v m

abbrev pub first_at : Flat → ℕ → At
first_at flat f = record {
  pc = (function_of flat f).entry;
  int_base = 0;
  ref_base = 0;
  ints = λ k. pos 0;
  refs = λ k. pos 0;
  frames = [];
  pending = pos 0;
  function = f;
  events = [];
  given = [];
}

abbrev pub start : Flat → ℕ → ℤ → At
start flat f v = begun (function_of flat f).parameter v (first_at flat f)
