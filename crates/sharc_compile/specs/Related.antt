-- How a thread of code and one of guarded code are related where both are at one statement.
use Rattle.std.specs.Prelude.{ℕ, ℤ, pos, ◌≡◌, ◌+◌, ◌*◌, ◌<◌, ◌⊎◌, false, List, [], ◌∷◌, length, Option, IsSomeAnd}
use Rattle.std.specs.Prelude.{slice_index, slice_index_or}
use Rattle.sharc_tree.specs.{declared.event.Object.Object, declared.event.CellAt.CellAt, declared.trap.Trap.Trap}
use Rattle.sharc_tree.specs.declared.event.Object.TheVariants as objects
use Rattle.sharc_tree.specs.declared.trap.Trap.TheVariants as traps
use Rattle.sharc_heap.specs.declared.stage.NewStage.{NewStage}
use Rattle.sharc_heap.specs.declared.stage.NewStage.TheVariants.{Cell, Move as Moves, Count, Length, Made}
use Rattle.sharc_locks.specs.declared.held_log.HeldMutex.{HeldMutex}
use Rattle.sharc_code.specs.{declared.code.Code.Code, declared.code.GlobalCells.GlobalCells, declared.instr.Instr.Instr}
use Rattle.sharc_code.specs.declared.instr.Instr.TheVariants.{New, Clear, Free, Spawn, Join, Exit, CondSignal}
use Rattle.sharc_code.specs.{declared.shape.Shape.Shape, declared.state.Frame.Frame, declared.state.TurnState.TurnState}
use Rattle.sharc_code.specs.declared.state.TurnState.TheVariants.{Runs, Tries, Stopped, Ended}
use Rattle.sharc_code.specs.declared.state.Stage.{Stage}
use Rattle.sharc_code.specs.declared.state.Stage.TheVariants.{Rests, Looks, Clears, Makes, Empties, Lowers, FreeLooks}
use Rattle.sharc_code.specs.declared.state.Stage.TheVariants.{FreeClears, Uncounts, Links, Names, Hands, Begins, Enters}
use Rattle.sharc_code.specs.declared.state.Stage.TheVariants.{Withdraws, WithdrawsFrom, Leaves, Wakes}
use Rattle.sharc_code.specs.declared.state.Stop.{Stop}
use Rattle.sharc_code.specs.declared.state.Stop.TheVariants.{Conflict, NoLock, NotSole, Trap as Trapped}
use Rattle.sharc_code.specs.{declared.state.TheConstants.FRAMES, Layout.{first_cell, cell_of}}
use Rattle.sharc_code.specs.Machine.{Machine, int, no_frame, elements_of, freed, layout_at}
use Rattle.sharc_code.specs.{Path.{most_ints, most_refs}, Says.{no_global, reference}, Ranges.IsInGlobal}
use Rattle.sharc_guard.specs.Machine as Form
use Rattle.sharc_guard.specs.Machine.{Program, Thread, Phase, Running, Leaving, Left, Check, Accesses, Locks, IsSole}
use Rattle.sharc_guard.specs.Machine.{statement_at, turn, is_held}
use Rattle.sharc_compile.specs.Consistent.{Elements, IsNumber}

-- ---- registers
pub record AreInts (xs : List ℤ) (many : ℕ) (ints : ℕ → ℤ) : Type 0 where
  pub count : length xs ≡ many
  pub are : (i : ℕ) → ints i ≡ slice_index_or xs i (pos 0)

pub record IsReference (T : Elements) (n : ℕ) (v : ℤ) : Type 0 where
  pub is : v ≡ reference n (T n)
  pub small : IsNumber n

pub record AreRefs (T : Elements) (xs : List ℕ) (many : ℕ) (refs : ℕ → ℤ) : Type 0 where
  pub count : length xs ≡ many
  pub are : (i : ℕ) → IsReference T (slice_index xs i) (refs i)

-- ---- frames: the nearest caller's is the last one below the depth
abbrev pub AreFrames : List Frame → ℕ → List Frame → Type 0
AreFrames [] depth slots = depth ≡ 0
AreFrames (f ∷ fs) depth slots =
    (depth ≡ length fs + 1) × (slice_index_or slots (length fs) no_frame ≡ f) × AreFrames fs (length fs) slots

-- ---- the log
-- the number of a cell, counted from the first cell of granule 0, and that of its object
abbrev pub place_in : List GlobalCells → Object → ℕ → ℕ
place_in globals (objects.Global g) cell = 2 * (slice_index_or globals g no_global).granule + cell
place_in globals (objects.Made n) cell = cell_of n cell

abbrev pub number_in : Object → ℕ
number_in (objects.Global g) = 0
number_in (objects.Made n) = n

abbrev pub IsKnown : List GlobalCells → Object → ℕ → Type 0
IsKnown globals (objects.Global g) cell = IsInGlobal globals g (2 * (slice_index_or globals g no_global).granule + cell)
IsKnown globals (objects.Made n) cell = 0 < n

-- the cell is the one at this place, of the object of this number
pub record IsCell (globals : List GlobalCells) (number place : ℕ) (c : CellAt) : Type 0 where
  pub number_is : number_in c.object ≡ number
  pub place_is : place_in globals c.object c.cell ≡ place
  pub known : IsKnown globals c.object c.cell

pub record IsHeldAs (globals : List GlobalCells) (first : ℕ) (c : CellAt) (e : HeldMutex) : Type 0 where
  pub place : ℕ
  pub cell : IsCell globals e.object place c
  pub word : e.word ≡ first + place

abbrev pub AreHeld : List GlobalCells → ℕ → List CellAt → List HeldMutex → Type 0
AreHeld globals first [] [] = Unit {0}
AreHeld globals first [] (e ∷ es) = ⊥
AreHeld globals first (c ∷ cs) [] = ⊥
AreHeld globals first (c ∷ cs) (e ∷ es) = IsHeldAs globals first c e × AreHeld globals first cs es

-- ---- all but the place
pub record AreSame (globals : List GlobalCells) (first most_int most_ref : ℕ) (T : Elements)
    (ints_from refs_from depth : ℕ) (ints : List ℤ) (refs : List ℕ) (pending : ℕ) (slots : List Frame)
    (log : List HeldMutex) (function : ℕ)
    (ints_from' refs_from' : ℕ) (ints' refs' : ℕ → ℤ) (pending' : ℤ) (frames : List Frame) (log' : List CellAt)
    (function' : ℕ) : Type 0 where
  pub from_ints : ints_from' ≡ ints_from
  pub from_refs : refs_from' ≡ refs_from
  pub in_ints : AreInts ints most_int ints'
  pub in_refs : AreRefs T refs most_ref refs'
  pub loaded : IsReference T pending pending'
  pub slot_count : length slots ≡ FRAMES
  pub in_frames : AreFrames frames depth slots
  pub in_log : AreHeld globals first log' log
  pub function_is : function' ≡ function

abbrev pub Same : Code → Shape → Elements → Machine → Thread → Type 0
Same code s T m a = AreSame code.globals.items (first_cell s) (FRAMES * most_ints code.functions.items)
    (FRAMES * most_refs code.functions.items) T
    m.at.ints m.at.refs m.at.depth m.ints m.refs m.pending m.frames m.own.held m.own.function
    a.ints_from a.refs_from a.ints a.refs a.pending a.frames a.held a.function

-- ---- inside a statement
-- the object is not made yet
abbrev pub IsGoing : NewStage → Type 0
IsGoing (Made header) = ⊥
IsGoing _ = Unit {0}

abbrev pub IsInNew : Machine → Stage → Instr → Type 0
IsInNew m (Makes state) (New r count cells site) =
    (state.arguments.elements ≡ elements_of (int m count)) × IsGoing state.stage
IsInNew m _ _ = ⊥

abbrev pub IsInClear : Instr → Type 0
IsInClear (Clear r cells) = Unit {0}
IsInClear _ = ⊥

abbrev pub IsInFree : Instr → Type 0
IsInFree (Free r layout site) = Unit {0}
IsInFree _ = ⊥

abbrev pub IsInSpawn : Instr → Type 0
IsInSpawn (Spawn r function from site) = Unit {0}
IsInSpawn _ = ⊥

abbrev pub IsInExit : Instr → Type 0
IsInExit Exit = Unit {0}
IsInExit _ = ⊥

abbrev pub IsInSignal : Instr → Type 0
IsInSignal (CondSignal cell site) = Unit {0}
IsInSignal _ = ⊥

-- the stage is one of this statement
abbrev pub IsAtStage : Machine → Instr → Stage → Type 0
IsAtStage m i Rests = Unit {0}
IsAtStage m i (Looks done all) = IsInClear i
IsAtStage m i (Clears done all seen) = IsInClear i
IsAtStage m i (Makes state) = IsInNew m (Makes state) i
IsAtStage m i (Empties at elements) = IsInFree i
IsAtStage m i (Lowers at elements of) = IsInFree i
IsAtStage m i (FreeLooks done elements) = IsInFree i
IsAtStage m i (FreeClears done elements seen) = IsInFree i
IsAtStage m i (Uncounts elements) = IsInFree i
IsAtStage m i (Links elements) = ⊥
IsAtStage m i (Names n) = IsInSpawn i
IsAtStage m i (Hands n) = IsInSpawn i
IsAtStage m i (Begins n) = IsInSpawn i
IsAtStage m i (Enters function) = ⊥
IsAtStage m i (Withdraws row) = IsInExit i
IsAtStage m i (WithdrawsFrom row seen) = IsInExit i
IsAtStage m i Leaves = IsInExit i
IsAtStage m i (Wakes seen) = IsInSignal i

-- how far the thread is on its way out
abbrev pub phase_at : Stage → Phase
phase_at (Withdraws row) = Leaving
phase_at (WithdrawsFrom row seen) = Leaving
phase_at Leaves = Leaving
phase_at _ = Running

abbrev pub phase_of : TurnState → Stage → Phase
phase_of Ended stage = Left
phase_of Runs stage = phase_at stage
phase_of Tries stage = phase_at stage
phase_of Stopped stage = phase_at stage

-- ---- stops
-- the statement asks for an event that the world may refuse by this trap: a Join, a Spawn, a New
abbrev pub Refuses : Instr → Trap → ℕ → Type 0
Refuses (Join r at) trap site = (trap ≡ traps.NoSuchThread) × (site ≡ at)
Refuses (Spawn r function from at) trap site = (trap ≡ traps.ThreadLimit) × (site ≡ at)
Refuses (New r count cells at) trap site = (trap ≡ traps.HeapFull) × (site ≡ at)
Refuses _ trap site = ⊥

-- the next statement checks this, at this site
pub record ChecksNext (p : Program) (a : Thread) (check : Check) (site : ℕ) : Type 0 where
  pub next : Thread
  pub checks : turn p a ≡ Form.Checks check site next

abbrev pub StopsAt : Program → Thread → Stop → Type 0
StopsAt p a (Conflict c) = (cell : CellAt) × ChecksNext p a (Accesses c.kind cell) c.site
StopsAt p a (NoLock site mutex) = (cell : CellAt) × ChecksNext p a (Locks cell) site × (is_held a.held cell ≡ false)
StopsAt p a (NotSole site count) = (v : ℤ) × ChecksNext p a (IsSole v) site
StopsAt p a (Trapped trap site) = (turn p a ≡ Form.Halts (Form.Stopped trap site))
    ⊎ Refuses (statement_at p a.pc) trap site

-- where the machine is over, guarded code is
abbrev pub IsOver : Program → Thread → TurnState → Option Stop → Type 0
IsOver p a Runs stop = Unit {0}
IsOver p a Tries stop = Unit {0}
IsOver p a Stopped stop = IsSomeAnd stop (StopsAt p a)
IsOver p a Ended stop = turn p a ≡ Form.Halts Form.Ended

-- ---- where it is
-- at a statement, or inside it
pub record IsAt (code : Code) (s : Shape) (p : Program) (T : Elements) (m : Machine) (a : Thread) : Type 0 where
  pub same : Same code s T m a
  pub pc_is : a.pc ≡ m.at.pc
  pub stage : IsAtStage m (statement_at p a.pc) m.own.stage
  pub phase_is : a.phase ≡ phase_of m.at.state m.own.stage
  pub over : IsOver p a m.at.state m.own.stop

-- after the Freed of a Free, whose block is yet to be linked
pub record IsLinking (code : Code) (s : Shape) (p : Program) (T : Elements) (m : Machine) (a : Thread) : Type 0 where
  pub register : ℕ
  pub layout : ℕ
  pub site : ℕ
  pub elements : ℕ
  pub statement : statement_at p m.at.pc ≡ Free register layout site
  pub stage : m.own.stage ≡ Links elements
  pub same : Same code s T (freed m register (layout_at code layout) elements) a
  pub pc_is : a.pc ≡ m.at.pc + 1
  pub phase_is : a.phase ≡ Running
  pub state_is : m.at.state ≡ Runs

abbrev pub MatchesThread : Code → Shape → Program → Elements → Machine → Thread → Type 0
MatchesThread code s p T m a = IsAt code s p T m a ⊎ IsLinking code s p T m a

-- ---- pace
-- how many counted turns of a statement are made at a stage
abbrev pub spent_in_new : NewStage → ℕ
spent_in_new (Cell cell) = 1
spent_in_new (Moves top moved) = 1
spent_in_new (Count header) = 2
spent_in_new (Length header) = 3
spent_in_new _ = 0

abbrev pub spent_at : Stage → ℕ
spent_at Rests = 0
spent_at (Looks done all) = 1
spent_at (Clears done all seen) = 1
spent_at (Makes state) = spent_in_new state.stage
spent_at (Empties at elements) = 1
spent_at (Lowers at elements of) = 1
spent_at (FreeLooks done elements) = 1
spent_at (FreeClears done elements seen) = 1
spent_at (Uncounts elements) = 1
spent_at (Links elements) = 0
spent_at (Names n) = 1
spent_at (Hands n) = 2
spent_at (Begins n) = 3
spent_at (Enters function) = 1
spent_at (Withdraws row) = 0
spent_at (WithdrawsFrom row seen) = 0
spent_at Leaves = 0
spent_at (Wakes seen) = 1
