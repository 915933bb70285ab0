-- Which guarded code is well formed: its statements lead to places of the same function, and write registers of its
-- frame.
use Rattle.std.specs.Prelude.{ℕ, ◌+◌, ◌*◌, ◌^◌, ◌≡◌, ◌<◌, ◌≤◌, length, slice_get, Some}
use Rattle.sharc_code.specs.{declared.code.Function.Function, declared.code.Parameter.Parameter}
use Rattle.sharc_code.specs.declared.instr.Cell.{Cell}
use Rattle.sharc_code.specs.declared.instr.Cell.TheVariants.{Global, GlobalAt, Object as InObject, ObjectAt}
use Rattle.sharc_code.specs.{declared.instr.Register.Register, declared.instr.Instr.Instr}
use Rattle.sharc_code.specs.declared.instr.Instr.TheVariants.{Constant, Move, MoveReference, Null, ComputeInt}
use Rattle.sharc_code.specs.declared.instr.Instr.TheVariants.{ComputeLong, NegateInt, NegateLong, Complement, Not}
use Rattle.sharc_code.specs.declared.instr.Instr.TheVariants.{SameReference, Jump, JumpIfZero, JumpIfNull, Call, Return}
use Rattle.sharc_code.specs.declared.instr.Instr.TheVariants.{Bounds, GlobalBounds, Load, Exchange, Raise, RaiseLoaded}
use Rattle.sharc_code.specs.declared.instr.Instr.TheVariants.{Lower, New, TakeCell, TakeLocal, Free, Lock, Unlock}
use Rattle.sharc_code.specs.declared.instr.Instr.TheVariants.{Spawn, Start, Exit}
use Rattle.sharc_code.specs.Ranges.{FramesFit, IsInGlobal}
use Rattle.sharc_code.specs.declared.code.Parameter.TheVariants as parameters
use Rattle.sharc_code.specs.declared.instr.Register.TheVariants as registers
use Rattle.sharc_guard.specs.Machine.{Program, function_at}

-- ---- registers that are written
abbrev pub BaseWithin : ℕ → Cell → Type 0
BaseWithin refs (Global global cell) = Unit {0}
BaseWithin refs (GlobalAt global r) = Unit {0}
BaseWithin refs (InObject r cell) = r < refs
BaseWithin refs (ObjectAt r at) = r < refs

abbrev pub HandedWithin : ℕ → Register → Type 0
HandedWithin refs (registers.Int r) = Unit {0}
HandedWithin refs (registers.Reference r) = r < refs

-- what the statement writes is in a frame of this many registers of each bank
abbrev pub WritesWithin : ℕ → ℕ → Instr → Type 0
WritesWithin ints refs (Constant r v) = r < ints
WritesWithin ints refs (Move r from) = r < ints
WritesWithin ints refs (MoveReference r from) = (r < refs) × (from < refs)
WritesWithin ints refs (Null r) = r < refs
WritesWithin ints refs (ComputeInt operator r x y site) = r < ints
WritesWithin ints refs (ComputeLong operator r x y site) = r < ints
WritesWithin ints refs (NegateInt r x site) = r < ints
WritesWithin ints refs (NegateLong r x site) = r < ints
WritesWithin ints refs (Complement r x) = r < ints
WritesWithin ints refs (Not r x) = r < ints
WritesWithin ints refs (SameReference r x y) = r < ints
WritesWithin ints refs (Call f i r site) = (i ≤ ints) × (r ≤ refs)
WritesWithin ints refs (Bounds r base cells field site) = r < ints
WritesWithin ints refs (GlobalBounds r elements cells field site) = r < ints
WritesWithin ints refs (Load r cell site) = r < ints
WritesWithin ints refs (Exchange r cell site) = r < refs
WritesWithin ints refs (Raise r from) = r < refs
WritesWithin ints refs (RaiseLoaded r) = r < refs
WritesWithin ints refs (Lower r) = r < refs
WritesWithin ints refs (New r count cells site) = r < refs
WritesWithin ints refs (TakeCell r cell site) = r < refs
WritesWithin ints refs (TakeLocal r from site) = (r < refs) × (from < refs)
WritesWithin ints refs (Free r layout site) = r < refs
WritesWithin ints refs (Lock cell site) = BaseWithin refs cell
WritesWithin ints refs (Unlock r cell site) = r < refs
WritesWithin ints refs (Spawn r function from site) = (r < ints) × HandedWithin refs from
WritesWithin ints refs _ = Unit {0}

-- ---- indexes of globals
abbrev pub HasFewCells : Instr → Type 0
HasFewCells (GlobalBounds r elements cells field site) = elements * cells + field < 2 ^ 63
HasFewCells _ = Unit {0}

-- ---- places
-- a place of the body of this function
pub record IsBody (p : Program) (owner : ℕ → ℕ) (f pc : ℕ) : Type 0 where
  pub behind : 2 ≤ pc
  pub inside : pc < length p.statements
  pub owned : owner pc ≡ f

-- where the statement at a place may lead
abbrev pub Leads : Program → (ℕ → ℕ) → ℕ → Instr → Type 0
Leads p owner pc (Jump to) = IsBody p owner (owner pc) to
Leads p owner pc (JumpIfZero r to) = IsBody p owner (owner pc) to × IsBody p owner (owner pc) (pc + 1)
Leads p owner pc (JumpIfNull r to) = IsBody p owner (owner pc) to × IsBody p owner (owner pc) (pc + 1)
Leads p owner pc (Call f i r site) = (f < length p.functions) × IsBody p owner (owner pc) (pc + 1)
Leads p owner pc (Return site) = Unit {0}
Leads p owner pc (Start site) = ⊥
Leads p owner pc Exit = ⊥
Leads p owner pc _ = IsBody p owner (owner pc) (pc + 1)

pub record IsAtPlace (p : Program) (owner : ℕ → ℕ) (pc : ℕ) (i : Instr) : Type 0 where
  pub writes : WritesWithin (function_at p (owner pc)).ints (function_at p (owner pc)).refs i
  pub leads : Leads p owner pc i
  pub few : HasFewCells i

-- ---- functions
abbrev pub HasParameter : Function → Parameter → Type 0
HasParameter f parameters.None = Unit {0}
HasParameter f parameters.Int = 0 < f.ints
HasParameter f parameters.Reference = 0 < f.refs

pub record IsEntry (p : Program) (owner : ℕ → ℕ) (f : ℕ) : Type 0 where
  pub body : IsBody p owner f (function_at p f).entry
  pub parameter : HasParameter (function_at p f) (function_at p f).parameter

-- ---- the whole
pub record IsGuarded (p : Program) : Type 0 where
  -- the function of each place
  pub owner : ℕ → ℕ
  pub start : ℕ
  pub starts : slice_get p.statements 0 ≡ Some (Start start)
  pub exits : slice_get p.statements 1 ≡ Some Exit
  pub entries : (f : ℕ) → f < length p.functions → IsEntry p owner f
  pub each : (pc : ℕ) (i : Instr) → 2 ≤ pc → slice_get p.statements pc ≡ Some i → IsAtPlace p owner pc i
  pub frames : FramesFit p.functions
  -- no place is one of two globals
  pub apart : (g h place : ℕ) → IsInGlobal p.globals g place → IsInGlobal p.globals h place → g ≡ h
