-- What one turn of a thread of guarded code does, in the words of the source: no word, no shadow and no count appears.
use Rattle.std.specs.List.{list_any}
use Rattle.std.specs.Prelude.{ℕ, ℤ, pos, negsuc, ◌+◌, ◌-◌, ◌*◌, ◌&&◌, Bool, true, false, not, List, [], ◌∷◌, ◌++◌, Some}
use Rattle.std.specs.Prelude.{length, filter, nat_lt, int_le, slice_index_or, Result, Ok, Err, if◌then◌else◌}
use Rattle.sharc_tree.specs.{declared.token.Site.Site, declared.event.CellAt.CellAt, declared.event.CellMode.CellMode}
use Rattle.sharc_tree.specs.{declared.event.Act.Act, declared.event.SourceEvent.SourceEvent, declared.trap.Trap.Trap}
use Rattle.sharc_tree.specs.declared.event.Object.TheVariants as objects
use Rattle.sharc_tree.specs.declared.event.CellMode.TheVariants as modes
use Rattle.sharc_tree.specs.declared.event.Taken.TheVariants as takens
use Rattle.sharc_tree.specs.declared.event.Act.TheVariants as acts
use Rattle.sharc_tree.specs.declared.trap.Trap.TheVariants as traps
use Rattle.sharc_heap.specs.declared.shadow_word.Kind.{Kind}
use Rattle.sharc_heap.specs.declared.shadow_word.Kind.TheVariants as kinds
use Rattle.sharc_code.specs.{declared.code.Function.Function, declared.code.GlobalCells.GlobalCells}
use Rattle.sharc_code.specs.declared.code.PlaceMode.{PlaceMode}
use Rattle.sharc_code.specs.declared.code.PlaceMode.TheVariants.{Private, Readonly, Racy, Dynamic, LockedGlobal}
use Rattle.sharc_code.specs.declared.code.PlaceMode.TheVariants.{LockedSibling, LockedThrough, LockedLoaded}
use Rattle.sharc_code.specs.{declared.code.SourcePlace.SourcePlace, declared.instr.Width.TheVariants.{Int, Long}}
use Rattle.sharc_code.specs.declared.instr.Cell.{Cell}
use Rattle.sharc_code.specs.declared.instr.Cell.TheVariants.{Global, GlobalAt, Object as InObject, ObjectAt}
use Rattle.sharc_code.specs.{declared.instr.Register.Register, declared.instr.Instr.Instr}
use Rattle.sharc_code.specs.declared.instr.Instr.TheVariants.{Constant, Move, MoveReference, Null, ComputeInt}
use Rattle.sharc_code.specs.declared.instr.Instr.TheVariants.{ComputeLong, NegateInt, NegateLong, Complement, Not}
use Rattle.sharc_code.specs.declared.instr.Instr.TheVariants.{SameReference, ChkWidth, Jump, JumpIfZero, JumpIfNull}
use Rattle.sharc_code.specs.declared.instr.Instr.TheVariants.{Call, Return, ChkNull, ChkHeld, ChkNotHeld, ChkPositive}
use Rattle.sharc_code.specs.declared.instr.Instr.TheVariants.{ChkRoom, ChkLock, ChkLockLoaded, Bounds, GlobalBounds}
use Rattle.sharc_code.specs.declared.instr.Instr.TheVariants.{ChkRead, ChkWrite, Load, Store, LoadRef, Exchange, Raise}
use Rattle.sharc_code.specs.declared.instr.Instr.TheVariants.{RaiseLoaded, Lower, New, TakeCell, TakeLocal, TestSole}
use Rattle.sharc_code.specs.declared.instr.Instr.TheVariants.{Clear, Give, Free, Lock, Unlock, Spawn, Join, Print}
use Rattle.sharc_code.specs.declared.instr.Instr.TheVariants.{Start, Exit, CondEnter, CondWait, CondSignal}
use Rattle.sharc_code.specs.declared.instr.Instr.TheVariants.{CondBroadcast}
use Rattle.sharc_code.specs.declared.state.Frame.{Frame}
use Rattle.sharc_code.specs.Arithmetic.{word_of, holds, is_zero, truth, computed, negated, complement}
use Rattle.sharc_code.specs.{Machine.{is_positive, elements_of as elements_made, no_function}, Runs.put}
use Rattle.sharc_code.specs.Says.{no_place, no_global, made_cell, kind_of, variable_of}
use Rattle.sharc_code.specs.declared.instr.Register.TheVariants as registers
use Rattle.sharc_meaning.specs.{Cells.through, Events.same_cell, Reference.{NULL, is_null, number_of, elements_of}}

-- what the machine looks at of guarded code
pub record Program : Type 0 where
  pub statements : List Instr
  pub functions : List Function
  pub globals : List GlobalCells
  pub sites : List SourcePlace

-- its function runs; it has returned; the thread is gone
pub data Phase : Type 0 where
  Running : Phase
  Leaving : Phase
  Left : Phase

-- a thread between two turns: its place, the first registers of its frame, both banks, the reference that was loaded
-- last and is not counted, the callers' frames, the nearest first, the mutexes that it holds, in the order of their
-- Locks, its function, the numbers of the references that it lowered since its last event, and its events after its
-- Started, the first one first
pub record Thread : Type 0 where
  pub pc : ℕ
  pub ints_from : ℕ
  pub refs_from : ℕ
  pub ints : ℕ → ℤ
  pub refs : ℕ → ℤ
  pub pending : ℤ
  pub frames : List Frame
  pub held : List CellAt
  pub function : ℕ
  pub lowered : List ℕ
  pub events : List SourceEvent
  pub phase : Phase

-- what may be reported: an access_at (A1, A2), an access_at under a lock (A3), a cast or a free (A4)
pub data Check : Type 0 where
  Accesses : Kind → CellAt → Check
  Locks : CellAt → Check
  IsSole : ℤ → Check

-- it is gone, or it is stopped by this trap at this site
pub data Outcome : Type 0 where
  Ended : Outcome
  Stopped : Trap → ℕ → Outcome

-- a turn goes on; asks for an event and goes on with what it is answered; checks, at this site, and goes on where
-- no_answer is reported; or halts
pub data Turn : Type 0 where
  Goes : Thread → Turn
  Asks : Site → Act → (ℤ → Thread) → Turn
  Checks : Check → ℕ → Thread → Turn
  Halts : Outcome → Turn

-- ---- registers
abbrev pub int : Thread → ℕ → ℤ
int a r = a.ints (a.ints_from + r)

abbrev pub ref : Thread → ℕ → ℤ
ref a r = a.refs (a.refs_from + r)

abbrev pub set_int : Thread → ℕ → ℤ → Thread
set_int a r v = record a { ints = put a.ints (a.ints_from + r) v }

abbrev pub set_ref : Thread → ℕ → ℤ → Thread
set_ref a r v = record a { refs = put a.refs (a.refs_from + r) v }

-- the reference goes from one register to another
abbrev pub move_ref : Thread → ℕ → ℕ → Thread
move_ref a r from = set_ref (set_ref a from NULL) r (ref a from)

-- ---- going on
abbrev pub next : Thread → Thread
next a = record a { pc = a.pc + 1 }

abbrev pub to : Thread → ℕ → Thread
to a pc = record a { pc = pc }

abbrev pub goes : Thread → Turn
goes a = Goes (next a)

abbrev pub asserts : Thread → Bool → Trap → ℕ → Turn
asserts a true trap site = goes a
asserts a false trap site = Halts (Stopped trap site)

abbrev pub with_result : Thread → ℕ → ℕ → Result ℤ Trap → Turn
with_result a r site (Ok z) = goes (set_int a r z)
with_result a r site (Err trap) = Halts (Stopped trap site)

-- after an access_at no_answer is left of what was loaded
abbrev pub accessed : Thread → Thread
accessed a = record a { pending = NULL }

-- what a register holds is counted no more
abbrev pub lowered : Thread → ℕ → Thread
lowered a r = record (set_ref a r NULL) { lowered = a.lowered ++ number_of (ref a r) ∷ [] }

-- ---- tables
abbrev pub function_at : Program → ℕ → Function
function_at p n = slice_index_or p.functions n no_function

abbrev pub source_at : Program → ℕ → SourcePlace
source_at p site = slice_index_or p.sites site no_place

-- ---- cells and modes
abbrev pub global_at : Program → ℕ → ℕ → CellAt
global_at p global place =
    record { object = objects.Global global; cell = place - 2 * (slice_index_or p.globals global no_global).granule }

abbrev pub cell_at : Program → Thread → Cell → CellAt
cell_at p a (Global global cell) = global_at p global cell
cell_at p a (GlobalAt global r) = global_at p global (word_of (int a r))
cell_at p a (InObject r cell) = made_cell (number_of (ref a r)) cell
cell_at p a (ObjectAt r at) = made_cell (number_of (ref a r)) (word_of (int a at))

abbrev pub is_of_null : Thread → Cell → Bool
is_of_null a (Global global cell) = false
is_of_null a (GlobalAt global r) = false
is_of_null a (InObject r cell) = is_null (ref a r)
is_of_null a (ObjectAt r at) = is_null (ref a r)

-- the reference to the object of a cell, NULL for a global
abbrev pub base_of : Thread → Cell → ℤ
base_of a (Global global cell) = NULL
base_of a (GlobalAt global r) = NULL
base_of a (InObject r cell) = ref a r
base_of a (ObjectAt r at) = ref a r

abbrev pub without_base : Thread → Cell → Thread
without_base a (Global global cell) = a
without_base a (GlobalAt global r) = a
without_base a (InObject r cell) = set_ref a r NULL
without_base a (ObjectAt r at) = set_ref a r NULL

abbrev pub mode_of : Program → Thread → CellAt → PlaceMode → CellMode
mode_of p a cell Private = modes.Private
mode_of p a cell Readonly = modes.Readonly
mode_of p a cell Racy = modes.Racy
mode_of p a cell Dynamic = modes.Dynamic
mode_of p a cell (LockedGlobal global place) = modes.Locked (Some (global_at p global place))
mode_of p a cell (LockedSibling field mutex) =
    modes.Locked (Some record { object = cell.object; cell = cell.cell - field + mutex })
mode_of p a cell (LockedThrough r place) = modes.Locked (through (ref a r) place)
mode_of p a cell LockedLoaded = modes.Locked (through a.pending 0)

-- the mode of an object that is made or given at a site
abbrev pub object_mode : Program → Thread → ℕ → CellMode
object_mode p a site = mode_of p a (made_cell 0 0) (source_at p site).mode

-- ---- the log
abbrev pub is_held : List CellAt → CellAt → Bool
is_held log c = list_any (same_cell c) log

abbrev pub without_mutex : List CellAt → CellAt → List CellAt
without_mutex log c = filter (λ d. not (same_cell d c)) log

-- ---- events
abbrev pub event_of : Site → Act → ℤ → SourceEvent
event_of site act answer = record { thread = 0; site = site; answer = answer; act = act }

abbrev pub told : Thread → Site → Act → ℤ → Thread
told a site act answer = record a { events = a.events ++ event_of site act answer ∷ []; lowered = [] }

-- an event, with what its answer is by what the world gives, and how the thread goes on
abbrev pub asks : Thread → Site → Act → (ℤ → ℤ) → (ℤ → Thread → Thread) → Turn
asks a site act answer go = Asks site act (λ x. go x (told a site act (answer x)))

abbrev pub asks_at : Program → Thread → ℕ → Act → (ℤ → ℤ) → (ℤ → Thread → Thread) → Turn
asks_at p a site act answer go = asks a (source_at p site).site act answer go

-- the world's answer, and none
abbrev pub given : ℤ → ℤ
given x = x

abbrev pub no_answer : ℤ → ℤ
no_answer x = pos 0

abbrev pub access_at : Program → Thread → ℕ → Cell → (CellAt → CellMode → Act) → (ℤ → ℤ) → (ℤ → Thread → Thread) → Turn
access_at p a site cell of answer go =
    let at = cell_at p a cell in asks_at p a site (of at (mode_of p a at (source_at p site).mode)) answer go

-- an event that answers no_answer and changes no_answer
abbrev pub tells_at : Program → Thread → ℕ → Act → Turn
tells_at p a site act = asks_at p a site act no_answer (λ x b. next b)

-- ---- indexes: the number of a field of an element
abbrev pub indexed : Thread → ℕ → ℤ → ℕ → ℕ → ℕ → ℕ → Turn
indexed a r (pos i) cells field site elements =
    if nat_lt i elements then goes (set_int a r (pos (i * cells + field)))
    else Halts (Stopped traps.IndexOutOfBounds site)
indexed a r (negsuc i) cells field site elements = Halts (Stopped traps.IndexOutOfBounds site)

-- ---- calls: there are at most 256 frames
abbrev pub called : Program → Thread → ℕ → ℕ → ℕ → ℕ → Turn
called p a f ints refs site =
    if nat_lt (length a.frames) 256
    then Goes (record a {
      pc = (function_at p f).entry;
      ints_from = a.ints_from + ints;
      refs_from = a.refs_from + refs;
      frames = record { pc = a.pc + 1; ints = a.ints_from; refs = a.refs_from } ∷ a.frames;
    })
    else Halts (Stopped traps.CallDepth site)

abbrev pub back_to : Thread → Frame → List Frame → Thread
back_to a f frames = record a { pc = f.pc; ints_from = f.ints; refs_from = f.refs; frames = frames }

-- where there is no frame, past the statements
abbrev pub returned : Program → Thread → ℕ → List Frame → Turn
returned p a site [] = Goes (to a (length p.statements))
returned p a site (f ∷ []) =
    if nat_lt 0 (length a.held) then Halts (Stopped traps.ReturnWithLockHeld site) else Goes (back_to a f [])
returned p a site (f ∷ g ∷ frames) = Goes (back_to a f (g ∷ frames))

-- ---- checks
abbrev pub lock_checked : Thread → Bool → CellAt → ℕ → Turn
lock_checked a true mutex site = Halts (Stopped traps.NullPointer site)
lock_checked a false mutex site = Checks (Locks mutex) site (next a)

-- ---- casts
abbrev pub taken_local : Program → Thread → ℕ → ℕ → ℕ → Turn
taken_local p a r from site =
    if is_null (ref a from) then goes (move_ref a r from)
    else asks_at p a site (acts.Take (takens.Local (variable_of (source_at p site).at)) (kind_of (source_at p site).at))
    (λ x. ref a from) (λ x b. next (move_ref b r from))

-- ---- threads
abbrev pub argument : Thread → Register → ℤ
argument a (registers.Int r) = int a r
argument a (registers.Reference r) = ref a r

abbrev pub handed : Thread → Register → Thread
handed a (registers.Int r) = a
handed a (registers.Reference r) = set_ref a r NULL

abbrev pub own_event : Program → Thread → Act → Phase → Turn
own_event p a act phase = asks a (function_at p a.function).site act no_answer (λ x b. record b { phase = phase })

-- the end of a thread: it returns, then it is gone
abbrev pub exit : Program → Thread → Phase → Turn
exit p a Running = own_event p a acts.Return Leaving
exit p a Leaving = own_event p a acts.Gone Left
exit p a Left = Halts Ended

-- ---- one statement; a Start stands in front of all functions, and no thread comes to it
abbrev pub step : Program → Instr → Thread → Turn
step p (Constant r v) a = goes (set_int a r v)
step p (Move r from) a = goes (set_int a r (int a from))
step p (MoveReference r from) a = goes (move_ref a r from)
step p (Null r) a = goes (set_ref a r NULL)
step p (ComputeInt operator r x y site) a = with_result a r site (computed Int operator (int a x) (int a y))
step p (ComputeLong operator r x y site) a = with_result a r site (computed Long operator (int a x) (int a y))
step p (NegateInt r x site) a = with_result a r site (negated Int (int a x))
step p (NegateLong r x site) a = with_result a r site (negated Long (int a x))
step p (Complement r x) a = goes (set_int a r (complement (int a x)))
step p (Not r x) a = goes (set_int a r (truth (is_zero (int a x))))
step p (SameReference r x y) a = goes (set_int a r (truth (int_le (ref a x) (ref a y) && int_le (ref a y) (ref a x))))
step p (ChkWidth width r site) a = asserts a (holds width (int a r)) traps.OutOfRange site
step p (Jump pc) a = Goes (to a pc)
step p (JumpIfZero r pc) a = if is_zero (int a r) then Goes (to a pc) else goes a
step p (JumpIfNull r pc) a = if is_null (ref a r) then Goes (to a pc) else goes a
step p (Call f ints refs site) a = called p a f ints refs site
step p (Return site) a = returned p a site a.frames
step p (ChkNull r site) a = asserts a (not (is_null (ref a r))) traps.NullPointer site
step p (ChkHeld cell site) a = asserts a (is_held a.held (cell_at p a cell)) traps.MutexNotHeld site
step p (ChkNotHeld cell site) a = asserts a (not (is_held a.held (cell_at p a cell))) traps.MutexAlreadyHeld site
step p (ChkPositive r site) a = asserts a (is_positive (int a r)) traps.SizeNotPositive site
step p (ChkRoom site) a = asserts a (nat_lt (length a.held) 16) traps.TooManyLocks site
step p (ChkLock cell site) a = lock_checked a (is_of_null a cell) (cell_at p a cell) site
step p (ChkLockLoaded site) a = lock_checked a (is_null a.pending) (made_cell (number_of a.pending) 0) site
step p (Bounds r base cells field site) a = indexed a r (int a r) cells field site (elements_of (ref a base))
step p (GlobalBounds r elements cells field site) a = indexed a r (int a r) cells field site elements
step p (ChkRead cell site) a = Checks (Accesses kinds.Read (cell_at p a cell)) site (next a)
step p (ChkWrite cell site) a = Checks (Accesses kinds.Write (cell_at p a cell)) site (next a)
step p (Load r cell site) a = access_at p a site cell acts.Read given (λ x b. next (accessed (set_int b r x)))
step p (Store r cell site) a =
    access_at p a site cell (λ at mode. acts.Write at mode (int a r)) no_answer (λ x b. next (accessed b))
step p (LoadRef cell site) a = access_at p a site cell acts.Read given (λ x b. next (record b { pending = x }))
step p (Exchange r cell site) a =
    access_at p a site cell (λ at mode. acts.Write at mode (ref a r)) no_answer (λ x b. next (accessed (set_ref b r x)))
step p (Raise r from) a = goes (set_ref a r (ref a from))
step p (RaiseLoaded r) a = goes (accessed (set_ref a r a.pending))
step p (Lower r) a = goes (lowered a r)
step p (New r count cells site) a = asks_at p a site
    (acts.New cells (elements_made (int a count)) (object_mode p a site)) given (λ x b. next (set_ref b r x))
step p (TakeCell r cell site) a =
    access_at p a site cell (λ at mode. acts.Take (takens.Cell at mode) (kind_of (source_at p site).at)) given
    (λ x b. next (accessed (set_ref b r x)))
step p (TakeLocal r from site) a = taken_local p a r from site
step p (TestSole r site) a = Checks (IsSole (ref a r)) site (next a)
step p (Clear r cells) a = goes a
step p (Give r site) a = tells_at p a site (acts.Give (ref a r) (object_mode p a site))
step p (Free r layout site) a = asks_at p a site (acts.Freed (ref a r)) no_answer (λ x b. next (set_ref b r NULL))
step p (Lock cell site) a =
    asks_at p a site (acts.Lock (cell_at p a cell)) no_answer
    (λ x b. next (record (without_base b cell) { held = a.held ++ cell_at p a cell ∷ [] }))
step p (Unlock r cell site) a =
    asks_at p a site (acts.Unlock (cell_at p a cell)) no_answer
    (λ x b. next (record (set_ref b r (base_of a cell)) { held = without_mutex a.held (cell_at p a cell) }))
step p (Spawn r function from site) a =
    asks_at p a site (acts.Spawn function (argument a from)) given (λ x b. next (set_int (handed b from) r x))
step p (Join r site) a = tells_at p a site (acts.Join (int a r))
step p (Print r site) a = tells_at p a site (acts.Print (int a r))
step p (Start site) a = Halts Ended
step p Exit a = exit p a a.phase
step p (CondEnter cell site) a = tells_at p a site (acts.Enter (cell_at p a cell))
step p (CondWait cell site) a = tells_at p a site (acts.Woken (cell_at p a cell))
step p (CondSignal cell site) a = asks_at p a site (acts.Signal (cell_at p a cell)) given (λ x b. next b)
step p (CondBroadcast cell site) a = tells_at p a site (acts.Broadcast (cell_at p a cell))

-- past the statements there is Exit
abbrev pub statement_at : Program → ℕ → Instr
statement_at p pc = slice_index_or p.statements pc Exit

abbrev pub turn : Program → Thread → Turn
turn p a = step p (statement_at p a.pc) a
