-- Which event of the source a turn is.
use Rattle.std.specs.Prelude.{ℕ, ℤ, pos, negsuc, zero, suc, ◌+◌, ◌-◌, ◌*◌, ◌%◌, ◌^◌, ◌==◌, ◌||◌, ◌≡◌}
use Rattle.std.specs.Prelude.{Bool, true, false, Option, Some, None, List, [], ◌∷◌, slice_index_or, if◌then◌else◌}
use Rattle.sharc_tree.specs.{declared.token.Site.Site, declared.event.CellAt.CellAt, declared.event.CellMode.CellMode}
use Rattle.sharc_tree.specs.{declared.event.TakeKind.TakeKind, declared.event.Act.Act}
use Rattle.sharc_tree.specs.declared.event.SourceEvent.{SourceEvent}
use Rattle.sharc_tree.specs.declared.event.Object.TheVariants as objects
use Rattle.sharc_tree.specs.declared.event.CellMode.TheVariants as modes
use Rattle.sharc_tree.specs.declared.event.Taken.TheVariants as takens
use Rattle.sharc_tree.specs.declared.event.TakeKind.TheVariants as kinds
use Rattle.sharc_tree.specs.declared.event.Act.TheVariants as acts
use Rattle.sharc_heap.specs.{State.NewView, declared.stage.NewStage.NewStage}
use Rattle.sharc_heap.specs.declared.stage.NewStage.TheVariants.{Length}
use Rattle.sharc_locks.specs.Waiters.{waits_in, lowest_of}
use Rattle.sharc_code.specs.{declared.code.Code.Code, declared.code.GlobalCells.GlobalCells}
use Rattle.sharc_code.specs.{declared.code.Parameter.Parameter, declared.code.PlaceMode.PlaceMode}
use Rattle.sharc_code.specs.declared.code.PlaceMode.TheVariants.{Private, Readonly, Racy, Dynamic, LockedGlobal}
use Rattle.sharc_code.specs.declared.code.PlaceMode.TheVariants.{LockedSibling, LockedThrough, LockedLoaded}
use Rattle.sharc_code.specs.{declared.code.Use.Use, declared.code.SourcePlace.SourcePlace, declared.instr.Cell.Cell}
use Rattle.sharc_code.specs.declared.instr.Cell.TheVariants.{Global, GlobalAt, Object as InObject, ObjectAt}
use Rattle.sharc_code.specs.{declared.instr.Register.Register, declared.instr.Instr.Instr}
use Rattle.sharc_code.specs.declared.instr.Instr.TheVariants.{Load, Store, LoadRef, Exchange, New, TakeCell, TakeLocal}
use Rattle.sharc_code.specs.declared.instr.Instr.TheVariants.{Give, Free, Lock, Unlock, Spawn, Join, Print, Start, Exit}
use Rattle.sharc_code.specs.declared.instr.Instr.TheVariants.{CondEnter, CondWait, CondSignal, CondBroadcast}
use Rattle.sharc_code.specs.declared.state.Stage.{Stage}
use Rattle.sharc_code.specs.declared.state.Stage.TheVariants.{Makes, Uncounts, Begins, Enters, Withdraws, WithdrawsFrom}
use Rattle.sharc_code.specs.declared.state.Stage.TheVariants.{Leaves, Wakes}
use Rattle.sharc_code.specs.{Arithmetic.{word_of, int_of}, Machine.{Machine, int, ref, function_of, instr_at}}
use Rattle.sharc_code.specs.Outcomes.{is_exit, is_locking, is_print}
use Rattle.sharc_code.specs.declared.code.Parameter.TheVariants as parameters
use Rattle.sharc_code.specs.declared.code.Use.TheVariants as uses
use Rattle.sharc_code.specs.declared.instr.Register.TheVariants as registers

-- ---- sites
abbrev pub no_site : Site
no_site = record { file = 0; line = 0; token = 0 }

abbrev pub no_place : SourcePlace
no_place = record {
  site = no_site;
  lvalue = record { from = 0; until = 0 };
  lock = record { from = 0; until = 0 };
  mode = Racy;
  at = uses.Other;
}

abbrev pub place_at : Code → ℕ → SourcePlace
place_at code site = slice_index_or code.sites.items site no_place

-- ---- cells, modes and references as the source has them
abbrev pub no_global : GlobalCells
no_global = record { granule = 0; cells = 0 }

-- a cell of a global that has this number, counted from the first cell of granule 0
abbrev pub global_cell : Code → ℕ → ℕ → CellAt
global_cell code global place =
    record {
      object = objects.Global global;
      cell = place - 2 * (slice_index_or code.globals.items global no_global).granule;
    }

abbrev pub made_cell : ℕ → ℕ → CellAt
made_cell number cell = record { object = objects.Made number; cell = cell }

abbrev pub cell_at : Code → Machine → Cell → CellAt
cell_at code m (Global global cell) = global_cell code global cell
cell_at code m (GlobalAt global r) = global_cell code global (word_of (int m r))
cell_at code m (InObject r cell) = made_cell (ref m r) cell
cell_at code m (ObjectAt r at) = made_cell (ref m r) (word_of (int m at))

-- where the path leads through NULL it names no mutex
abbrev pub lock_through : ℕ → ℕ → Option CellAt
lock_through zero cell = None
lock_through (suc number) cell = Some (made_cell (suc number) cell)

-- the mode of a place, with the mutex cell itself for a lock
abbrev pub mode_of : Code → Machine → CellAt → PlaceMode → CellMode
mode_of code m cell Private = modes.Private
mode_of code m cell Readonly = modes.Readonly
mode_of code m cell Racy = modes.Racy
mode_of code m cell Dynamic = modes.Dynamic
mode_of code m cell (LockedGlobal global place) = modes.Locked (Some (global_cell code global place))
mode_of code m cell (LockedSibling field mutex) =
    modes.Locked (Some record { object = cell.object; cell = cell.cell - field + mutex })
mode_of code m cell (LockedThrough r place) = modes.Locked (lock_through (ref m r) place)
mode_of code m cell LockedLoaded = modes.Locked (lock_through m.pending 0)

-- a reference is its object's number and its number of elements
abbrev pub reference : ℕ → ℕ → ℤ
reference zero elements = pos 0
reference (suc number) elements = pos (suc number + 2 ^ 32 * elements)

-- what an argument is to the source
abbrev pub argument_of : Machine → Register → ℕ → ℤ
argument_of m (registers.Int r) elements = int m r
argument_of m (registers.Reference r) elements = reference (ref m r) elements

abbrev pub started_with : Parameter → ℕ → ℕ → ℤ
started_with parameters.None found elements = int_of found
started_with parameters.Int found elements = int_of found
started_with parameters.Reference found elements = reference found elements

abbrev pub kind_of : Use → TakeKind
kind_of (uses.Free variable) = kinds.Free
kind_of _ = kinds.Cast

abbrev pub variable_of : Use → ℕ
variable_of (uses.Cast (Some variable)) = variable
variable_of (uses.Free (Some variable)) = variable
variable_of _ = 0

-- ---- events
abbrev pub event : Machine → Site → ℤ → Act → Option SourceEvent
event m site answer act = Some record { thread = m.own.number; site = site; answer = answer; act = act }

-- at a site of the code, of a cell with the mode of the place
abbrev pub event_at : Code → Machine → ℕ → ℤ → Act → Option SourceEvent
event_at code m site answer act = event m (place_at code site).site answer act

abbrev pub access : Code → Machine → ℕ → Cell → ℤ → (CellAt → CellMode → Act) → Option SourceEvent
access code m site cell answer of =
    let at = cell_at code m cell in event_at code m site answer (of at (mode_of code m at (place_at code site).mode))

-- at the site of the thread's function
abbrev pub own_event : Code → Machine → Act → Option SourceEvent
own_event code m act = event m (function_of code m.own.function).site (pos 0) act

-- Take of a local that is not NULL
abbrev pub take_local : Code → Machine → ℕ → ℕ → ℕ → Option SourceEvent
take_local code m site zero elements = None
take_local code m site (suc number) elements =
    event_at code m site (reference (suc number) elements)
    (acts.Take (takens.Local (variable_of (place_at code site).at)) (kind_of (place_at code site).at))

-- the Swap of the length
abbrev pub new_event : Code → Machine → ℕ → ℕ → NewView → NewStage → Option SourceEvent
new_event code m site cells state (Length header) =
    event_at code m site (reference header state.arguments.elements)
    (acts.New cells state.arguments.elements (mode_of code m (made_cell 0 0) (place_at code site).mode))
new_event code m site cells state _ = None

abbrev pub in_new : Code → Machine → ℕ → ℕ → Stage → Option SourceEvent
in_new code m site cells (Makes state) = new_event code m site cells state state.stage
in_new code m site cells _ = None

-- the Swap of the count to 0
abbrev pub in_free : Code → Machine → ℕ → ℕ → ℕ → Stage → Option SourceEvent
in_free code m r site elements (Uncounts all) = event_at code m site (pos 0) (acts.Freed (reference (ref m r) elements))
in_free code m r site elements _ = None

-- the Swap of the state to 1
abbrev pub in_spawn : Code → Machine → ℕ → Register → ℕ → ℕ → Stage → Option SourceEvent
in_spawn code m function from site elements (Begins n) =
    event_at code m site (pos n) (acts.Spawn function (argument_of m from elements))
in_spawn code m function from site elements _ = None

-- the Load of the argument
abbrev pub in_start : Code → Machine → ℕ → ℕ → Stage → Option SourceEvent
in_start code m found elements (Enters function) =
    event m (function_of code function).site (pos 0)
    (acts.Started (started_with (function_of code function).parameter found elements))
in_start code m found elements _ = None

-- the Swaps of the state to 2 and to 3
abbrev pub in_exit : Code → Machine → Stage → Option SourceEvent
in_exit code m (Withdraws row) = None
in_exit code m (WithdrawsFrom row seen) = None
in_exit code m Leaves = own_event code m acts.Gone
in_exit code m _ = own_event code m acts.Return

-- the Load or the failed Cas that finds 0, or the Cas that succeeds
abbrev pub nobody : Code → Machine → Cell → ℕ → ℕ → Option SourceEvent
nobody code m cell site zero = event_at code m site (pos 0) (acts.Signal (cell_at code m cell))
nobody code m cell site (suc found) = None

abbrev pub in_signal : Code → Machine → Cell → ℕ → ℕ → Stage → Option SourceEvent
in_signal code m cell site found (Wakes seen) =
    if found == seen then event_at code m site (pos (lowest_of seen + 1)) (acts.Signal (cell_at code m cell))
    else nobody code m cell site found
in_signal code m cell site found _ = nobody code m cell site found

-- the turn of this instruction, where its step found this; the reference of which it speaks has this many elements
abbrev pub said : Code → Instr → Machine → ℕ → ℕ → Option SourceEvent
said code (Load r cell site) m found elements = access code m site cell (int_of found) acts.Read
said code (Store r cell site) m found elements =
    access code m site cell (pos 0) (λ at mode. acts.Write at mode (int m r))
said code (LoadRef cell site) m found elements = access code m site cell (reference found elements) acts.Read
said code (Exchange r cell site) m found elements =
    access code m site cell (pos 0) (λ at mode. acts.Write at mode (reference (ref m r) elements))
said code (TakeCell r cell site) m found elements =
    access code m site cell (reference found elements)
    (λ at mode. acts.Take (takens.Cell at mode) (kind_of (place_at code site).at))
said code (TakeLocal r from site) m found elements = take_local code m site (ref m from) elements
said code (Give r site) m found elements =
    event_at code m site (pos 0)
    (acts.Give (reference (ref m r) elements) (mode_of code m (made_cell 0 0) (place_at code site).mode))
said code (New r count cells site) m found elements = in_new code m site cells m.own.stage
said code (Free r layout site) m found elements = in_free code m r site elements m.own.stage
said code (Lock cell site) m found elements =
    if found == 0 then event_at code m site (pos 0) (acts.Lock (cell_at code m cell)) else None
said code (Unlock r cell site) m found elements = event_at code m site (pos 0) (acts.Unlock (cell_at code m cell))
said code (Spawn r function from site) m found elements = in_spawn code m function from site elements m.own.stage
said code (Join r site) m found elements =
    if found == 0 || (found == 1 || found == 2) then None else event_at code m site (pos 0) (acts.Join (int m r))
said code (Print r site) m found elements = event_at code m site (pos 0) (acts.Print (int m r))
said code (Start site) m found elements = in_start code m found elements m.own.stage
said code Exit m found elements = in_exit code m m.own.stage
said code (CondEnter cell site) m found elements = event_at code m site (pos 0) (acts.Enter (cell_at code m cell))
said code (CondWait cell site) m found elements =
    if waits_in found m.own.number then None else event_at code m site (pos 0) (acts.Woken (cell_at code m cell))
said code (CondSignal cell site) m found elements = in_signal code m cell site found m.own.stage
said code (CondBroadcast cell site) m found elements =
    event_at code m site (pos 0) (acts.Broadcast (cell_at code m cell))
said code _ m found elements = None

abbrev pub says : Code → Machine → ℕ → ℕ → Option SourceEvent
says code m found elements = said code (instr_at code m.at.pc) m found elements

-- ---- the elements of references
-- the number of the object of which a turn speaks
abbrev pub of_argument : Machine → Register → ℕ
of_argument m (registers.Int r) = 0
of_argument m (registers.Reference r) = ref m r

abbrev pub speaks_of : Instr → Machine → ℕ → ℕ
speaks_of (LoadRef cell site) m found = found
speaks_of (Exchange r cell site) m found = ref m r
speaks_of (TakeCell r cell site) m found = found
speaks_of (TakeLocal r from site) m found = ref m from
speaks_of (Give r site) m found = ref m r
speaks_of (Free r layout site) m found = ref m r
speaks_of (Spawn r function from site) m found = of_argument m from
speaks_of (Start site) m found = found
speaks_of _ m found = 0

abbrev pub number_of : ℤ → ℕ
number_of (pos n) = n % 2 ^ 32
number_of (negsuc n) = 0

-- the elements of the last New of this number, the newest event first
abbrev pub elements_after : SourceEvent → Act → ℕ → ℕ → ℕ
elements_after e (acts.New cells elements mode) number earlier =
    if number_of e.answer == number then elements else earlier
elements_after e _ number earlier = earlier

abbrev pub elements_in : List SourceEvent → ℕ → ℕ
elements_in [] number = 0
elements_in (e ∷ earlier) number = elements_after e e.act number (elements_in earlier number)

-- ---- which instructions tell which acts
abbrev pub is_access : Instr → Bool
is_access (Load r cell site) = true
is_access (Store r cell site) = true
is_access (LoadRef cell site) = true
is_access (Exchange r cell site) = true
is_access (TakeCell r cell site) = true
is_access _ = false

-- it may tell of a thread that is spawned or gone
abbrev pub is_threading : Instr → Bool
is_threading (Spawn r function from site) = true
is_threading Exit = true
is_threading _ = false

abbrev pub is_condition : Instr → Bool
is_condition (CondEnter cell site) = true
is_condition (CondWait cell site) = true
is_condition (CondSignal cell site) = true
is_condition (CondBroadcast cell site) = true
is_condition _ = false

abbrev pub is_enter : Instr → Bool
is_enter (CondEnter cell site) = true
is_enter _ = false

-- one that may tell an act like this
abbrev pub tells : Act → Instr → Bool
tells (acts.Read cell mode) i = is_access i
tells (acts.Write cell mode v) i = is_access i
tells (acts.Take (takens.Cell cell mode) kind) i = is_access i
tells (acts.Take (takens.Local variable) kind) i = true
tells (acts.Lock cell) i = is_locking i
tells (acts.Unlock cell) i = is_locking i
tells (acts.Spawn function v) i = is_threading i
tells (acts.Print v) i = is_print i
tells acts.Gone i = is_exit i
tells (acts.Enter cell) i = is_enter i
tells (acts.Woken cell) i = is_condition i
tells (acts.Signal cell) i = is_condition i
tells (acts.Broadcast cell) i = is_condition i
tells _ i = true

-- an event of the thread itself, of an act that the instruction may tell
abbrev pub IsSaidBy : Instr → Machine → Option SourceEvent → Type 0
IsSaidBy i m None = Unit {0}
IsSaidBy i m (Some e) = (e.thread ≡ m.own.number) × (tells e.act i ≡ true)

abbrev pub TurnsTell : Type 0
TurnsTell = (code : Code) (i : Instr) (m : Machine) (found elements : ℕ)
    → IsSaidBy i m (said code i m found elements)
