-- Paths of code whose results are those of a store: references are numbers, Bounds answers the elements of its object,
-- the elements of an object do not change while the thread has a reference to it, and a mutex that the thread looks at
-- shares its word with none of another object that it holds.
use Rattle.std.specs.Prelude.{ℕ, ◌≡◌, ◌+◌, ◌*◌, ◌^◌, ◌<◌, ◌⊎◌, true, false, List, [], ◌∷◌, ◌++◌, length, All, Option}
use Rattle.std.specs.Prelude.{Some, None, slice_index}
use Rattle.std.specs.Option.{option_to_list}
use Rattle.sharc_tree.specs.declared.event.SourceEvent.{SourceEvent}
use Rattle.sharc_heap.specs.{declared.stage.NewStage.NewStage, declared.stage.NewStage.TheVariants.Length}
use Rattle.sharc_locks.specs.declared.held_log.HeldMutex.{HeldMutex}
use Rattle.sharc_code.specs.{declared.code.Code.Code, declared.code.Parameter.Parameter, declared.instr.Cell.Cell}
use Rattle.sharc_code.specs.declared.instr.Cell.TheVariants.{Global, GlobalAt, Object as InObject, ObjectAt}
use Rattle.sharc_code.specs.declared.instr.Instr.{Instr}
use Rattle.sharc_code.specs.declared.instr.Instr.TheVariants.{ChkHeld, ChkNotHeld, ChkLock, ChkLockLoaded, Bounds}
use Rattle.sharc_code.specs.declared.instr.Instr.TheVariants.{LoadRef, Exchange, New, TakeCell, Lock, Unlock, Start}
use Rattle.sharc_code.specs.{declared.shape.Shape.Shape, declared.state.Stage.Stage}
use Rattle.sharc_code.specs.{declared.state.Stage.TheVariants.{Makes, Enters}, Arithmetic.word_of}
use Rattle.sharc_code.specs.Layout.{first_cell, words_of, cell_of}
use Rattle.sharc_code.specs.Machine.{Machine, int, ref, place, object, word, is_held, function_of, instr_at}
use Rattle.sharc_code.specs.{Path.{turn, after, asked_by, machine_after}, Says.{says, speaks_of, elements_after}}
use Rattle.sharc_code.specs.Ranges.{IsInGlobal}
use Rattle.sharc_code.specs.declared.code.Parameter.TheVariants as parameters

-- ---- what a path reports of the source
-- The elements of the objects by their numbers, at each turn of a path: those of the last New of the number among the
-- events of all threads before the turn.
abbrev pub Elements : Type 0
Elements = ℕ → ℕ

-- the same after an event
abbrev pub elements_told : Option SourceEvent → Elements → Elements
elements_told None T n = T n
elements_told (Some e) T n = elements_after e e.act n (T n)

-- what a turn says, by the elements before it
abbrev pub said_now : Code → Elements → Machine → ℕ → Option SourceEvent
said_now code T m found = says code m found (T (speaks_of (instr_at code m.at.pc) m found))

-- the events of a path, the first one first; `elements k` are those before its turn k
abbrev pub said_in : Code → Shape → Machine → (ℕ → Elements) → List ℕ → List SourceEvent
said_in code s m elements [] = []
said_in code s m elements (found ∷ earlier) =
    said_in code s m elements earlier
    ++ option_to_list (said_now code (elements (length earlier)) (machine_after code s m earlier) found)

-- ---- references
-- a reference is a number of 32 bits
abbrev pub IsNumber : ℕ → Type 0
IsNumber n = n < 2 ^ 32

-- the thread has a reference to this object, in a register or loaded
abbrev pub Has : Machine → ℕ → Type 0
Has m n = ((i : ℕ) × (slice_index m.refs i ≡ n)) ⊎ (m.pending ≡ n)

-- ---- mutexes
-- the cell is one of the shape, and no mutex of another object in the log has its word
pub record IsApart (s : Shape) (held : List HeldMutex) (number cell : ℕ) : Type 0 where
  pub inside : first_cell s + cell < words_of s
  pub apart : All (λ h. h.word ≡ first_cell s + cell → h.object ≡ number) held

-- the cell is one of its global, or its object is not NULL
abbrev pub IsThere : Code → Machine → Cell → Type 0
IsThere code m (Global global cell) = IsInGlobal code.globals.items global cell
IsThere code m (GlobalAt global r) = IsInGlobal code.globals.items global (word_of (int m r))
IsThere code m (InObject r cell) = 0 < ref m r
IsThere code m (ObjectAt r at) = 0 < ref m r

pub record IsMutex (code : Code) (s : Shape) (m : Machine) (cell : Cell) : Type 0 where
  pub there : IsThere code m cell
  pub apart : IsApart s m.own.held (object m cell) (place m cell)

-- the same of a lock's cell, where it is not of NULL
abbrev pub IsLock : Code → Shape → Machine → Cell → Type 0
IsLock code s m (Global global cell) = IsMutex code s m (Global global cell)
IsLock code s m (GlobalAt global r) = IsMutex code s m (GlobalAt global r)
IsLock code s m (InObject r cell) = 0 < ref m r → IsMutex code s m (InObject r cell)
IsLock code s m (ObjectAt r at) = 0 < ref m r → IsMutex code s m (ObjectAt r at)

-- a mutex that the thread may take: it does not hold it, and its log has room
pub record IsFree (code : Code) (s : Shape) (m : Machine) (cell : Cell) : Type 0 where
  pub mutex : IsMutex code s m cell
  pub other : is_held m (word s m cell) ≡ false
  pub room : length m.own.held < 16

-- one that it holds
pub record IsHeld (code : Code) (s : Shape) (m : Machine) (cell : Cell) : Type 0 where
  pub mutex : IsMutex code s m cell
  pub own : is_held m (word s m cell) ≡ true

-- ---- results
-- the elements of the object, all of whose cells are few
pub record IsLength (T : Elements) (n cells field found : ℕ) : Type 0 where
  pub some : 0 < n
  pub elements : found ≡ T n
  pub few : found * cells + field < 2 ^ 63

-- a new object's number is of 32 bits, and none to whose object the thread has a reference
pub record IsNew (m : Machine) (header : ℕ) : Type 0 where
  pub number : IsNumber header
  pub fresh : 0 < header → Has m header → ⊥

abbrev pub IsNewIn : Machine → NewStage → Type 0
IsNewIn m (Length header) = IsNew m header
IsNewIn m _ = Unit {0}

abbrev pub IsNewAt : Machine → Stage → Type 0
IsNewAt m (Makes state) = IsNewIn m state.stage
IsNewAt m _ = Unit {0}

abbrev pub IsArgument : Parameter → ℕ → Type 0
IsArgument parameters.Reference found = IsNumber found
IsArgument _ found = Unit {0}

-- the number of a function, and then the argument
abbrev pub IsArgumentAt : Code → Stage → ℕ → Type 0
IsArgumentAt code (Enters function) found = IsArgument (function_of code function).parameter found
IsArgumentAt code _ found = found < length code.functions.items

-- what this instruction may find at its next turn
abbrev pub MayFind : Code → Shape → Elements → Machine → ℕ → Instr → Type 0
MayFind code s T m found (Bounds r base cells field site) = IsLength T (ref m base) cells field found
MayFind code s T m found (LoadRef cell site) = IsNumber found
MayFind code s T m found (Exchange r cell site) = IsNumber found
MayFind code s T m found (TakeCell r cell site) = IsNumber found
MayFind code s T m found (New r count cells site) = IsNewAt m m.own.stage
MayFind code s T m found (Start site) = IsArgumentAt code m.own.stage found
MayFind code s T m found (ChkHeld cell site) = IsMutex code s m cell
MayFind code s T m found (ChkNotHeld cell site) = IsMutex code s m cell
MayFind code s T m found (ChkLock cell site) = IsLock code s m cell
MayFind code s T m found (ChkLockLoaded site) = 0 < m.pending → IsApart s m.own.held m.pending (cell_of m.pending 0)
MayFind code s T m found (Lock cell site) = found ≡ 0 → IsFree code s m cell
MayFind code s T m found (Unlock r cell site) = IsHeld code s m cell
MayFind code s T m found _ = Unit {0}

-- one turn, with the elements before it and those before the next one
pub record IsConsistentTurn (code : Code) (s : Shape) (T later : Elements) (m : Machine) (found : ℕ) : Type 0 where
  pub finds : MayFind code s T m found (instr_at code m.at.pc)
  -- a turn that asks for no step finds 0
  pub quiet : asked_by (turn code s m) ≡ None → found ≡ 0
  -- no other thread makes an object anew to which this one has a reference
  pub kept : (n : ℕ) → 0 < n → Has (after (turn code s m) found) n
      → later n ≡ elements_told (said_now code T m found) T n

-- a path, the last turn first
abbrev pub IsConsistent : Code → Shape → Machine → (ℕ → Elements) → List ℕ → Type 0
IsConsistent code s m elements [] = Unit {0}
IsConsistent code s m elements (found ∷ earlier) =
    IsConsistent code s m elements earlier
    × IsConsistentTurn code s (elements (length earlier)) (elements (length earlier + 1))
    (machine_after code s m earlier) found
