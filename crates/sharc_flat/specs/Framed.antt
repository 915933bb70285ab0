-- Flat code whose lines stay within the frames of their functions and lead to lines of them.
use Rattle.std.specs.Prelude.{Bool, ℕ, ◌+◌, ◌*◌, ◌^◌, ◌≡◌, ◌<◌, ◌≤◌, List, length, slice_get, slice_index_or, Some}
use Rattle.sharc_code.specs.{Path.{most_ints, most_refs}, Says.no_global, declared.code.Function.Function}
use Rattle.sharc_code.specs.{declared.code.GlobalCells.GlobalCells, declared.code.Parameter.Parameter}
use Rattle.sharc_code.specs.{declared.instr.Cell.Cell, declared.instr.Register.Register, declared.instr.Width.Width}
use Rattle.sharc_code.specs.declared.instr.Width.TheVariants.{Char, Int, Long}
use Rattle.sharc_code.specs.declared.code.Parameter.TheVariants as parameters
use Rattle.sharc_code.specs.declared.instr.Cell.TheVariants as cells
use Rattle.sharc_code.specs.declared.instr.Register.TheVariants as registers
use Rattle.sharc_flat.specs.{declared.op.Op.Op, Machine.{Flat, function_of}}
use Rattle.sharc_flat.specs.declared.op.Op.TheVariants as op

abbrev pub BaseWithin : ℕ → Cell → Type 0
BaseWithin refs (cells.Global g place) = Unit {0}
BaseWithin refs (cells.GlobalAt g i) = Unit {0}
BaseWithin refs (cells.Object r n) = r < refs
BaseWithin refs (cells.ObjectAt r i) = r < refs

abbrev pub HandedWithin : ℕ → Register → Type 0
HandedWithin refs (registers.Int i) = Unit {0}
HandedWithin refs (registers.Reference r) = r < refs

abbrev pub HasParameter : Function → Parameter → Type 0
HasParameter f parameters.None = Unit {0}
HasParameter f parameters.Int = 0 < f.ints
HasParameter f parameters.Reference = 0 < f.refs

-- the place is one of the cells of this global
pub record IsInGlobal (globals : List GlobalCells) (g place : ℕ) : Type 0 where
  pub known : g < length globals
  pub low : 2 * (slice_index_or globals g no_global).granule ≤ place
  pub high : place < 2 * (slice_index_or globals g no_global).granule + (slice_index_or globals g no_global).cells

-- what an operation writes is in a frame of this many registers of each bank; so is what a call gives back, of either
-- kind
abbrev pub OpWrites : ℕ → ℕ → Op → Type 0
OpWrites ints refs (op.Constant i v) = i < ints
OpWrites ints refs (op.Move i from) = i < ints
OpWrites ints refs (op.Compute width operator i a b spot) = i < ints
OpWrites ints refs (op.Negate width i a spot) = i < ints
OpWrites ints refs (op.Complement i a) = i < ints
OpWrites ints refs (op.IsFalse i a) = i < ints
OpWrites ints refs (op.SameReference i a b) = i < ints
OpWrites ints refs (op.Call f i r spot) = (i < ints) × (r < refs)
OpWrites ints refs (op.Null r) = r < refs
OpWrites ints refs (op.Local r x) = r < refs
OpWrites ints refs (op.MoveReference r from) = (r < refs) × (from < refs)
OpWrites ints refs (op.Pop r) = r < refs
OpWrites ints refs (op.Settle x from) = (x < refs) × (from < refs)
OpWrites ints refs (op.Bounds i r cells field spot) = i < ints
OpWrites ints refs (op.GlobalBounds i elements cells field spot) = (i < ints) × (elements * cells + field < 2 ^ 63)
OpWrites ints refs (op.Load i cell spot) = i < ints
OpWrites ints refs (op.LoadRef r cell spot) = r < refs
OpWrites ints refs (op.StoreRef r cell spot) = r < refs
OpWrites ints refs (op.New r count cells spot) = r < refs
OpWrites ints refs (op.TakeCell r cell spot) = r < refs
OpWrites ints refs (op.TakeLocal r x spot) = (r < refs) × (x < refs)
OpWrites ints refs (op.Free r layout spot) = r < refs
OpWrites ints refs (op.Lock cell spot) = BaseWithin refs cell
OpWrites ints refs (op.Unlock r cell spot) = r < refs
OpWrites ints refs (op.Spawn i f from spot) = (i < ints) × HandedWithin refs from
OpWrites ints refs _ = Unit {0}

-- a line of this function
pub record InLine (flat : Flat) (owner : ℕ → ℕ) (f n : ℕ) : Type 0 where
  pub inside : n < length flat.lines
  pub owned : owner n ≡ f

abbrev pub OpLeads : Flat → (ℕ → ℕ) → ℕ → Op → Type 0
OpLeads flat owner n (op.Skip k) = InLine flat owner (owner n) (n + 1 + k)
OpLeads flat owner n (op.SkipIfZero i k) = InLine flat owner (owner n) (n + 1 + k) × InLine flat owner (owner n) (n + 1)
OpLeads flat owner n (op.SkipIfNull r k) = InLine flat owner (owner n) (n + 1 + k) × InLine flat owner (owner n) (n + 1)
OpLeads flat owner n (op.Jump to) = InLine flat owner (owner n) to
OpLeads flat owner n (op.Call f ints refs spot) = (f < length flat.functions) × InLine flat owner (owner n) (n + 1)
OpLeads flat owner n (op.Return spot) = Unit {0}
OpLeads flat owner n _ = InLine flat owner (owner n) (n + 1)

pub record IsFramedAt (flat : Flat) (owner : ℕ → ℕ) (n : ℕ) (o : Op) : Type 0 where
  pub writes : OpWrites (function_of flat (owner n)).ints (function_of flat (owner n)).refs o
  pub leads : OpLeads flat owner n o

pub record IsFramed (flat : Flat) : Type 0 where
  -- the function of each line
  pub owner : ℕ → ℕ
  pub entries : (f : ℕ) → f < length flat.functions → InLine flat owner f (function_of flat f).entry
      × HasParameter (function_of flat f) (function_of flat f).parameter
  pub each : (n : ℕ) (o : Op) → slice_get flat.lines n ≡ Some o → IsFramedAt flat owner n o
  pub few_ints : 256 * most_ints flat.functions < 2 ^ 32
  pub few_refs : 256 * most_refs flat.functions < 2 ^ 32
  pub apart : (g h place : ℕ) → IsInGlobal flat.globals g place → IsInGlobal flat.globals h place → g ≡ h

-- ---- well-formed flat code: no line leads past the last one, nothing is computed in a `char`, and nothing settles in
-- itself
abbrev pub IsWide : Width → Type 0
IsWide Char = ⊥
IsWide Int = Unit {0}
IsWide Long = Unit {0}

abbrev pub Leads : Flat → ℕ → Op → Type 0
Leads flat n (op.Skip k) = n + 1 + k < length flat.lines
Leads flat n (op.SkipIfZero i k) = (n + 1 + k < length flat.lines) × (n + 1 < length flat.lines)
Leads flat n (op.SkipIfNull r k) = (n + 1 + k < length flat.lines) × (n + 1 < length flat.lines)
Leads flat n (op.Jump to) = to < length flat.lines
Leads flat n (op.Call f ints refs spot) = (f < length flat.functions) × (n + 1 < length flat.lines)
Leads flat n (op.Return spot) = Unit {0}
Leads flat n (op.Settle x from) = (x ≡ from → ⊥) × (n + 1 < length flat.lines)
Leads flat n (op.Compute width operator i a b spot) = IsWide width × (n + 1 < length flat.lines)
Leads flat n (op.Negate width i a spot) = IsWide width × (n + 1 < length flat.lines)
Leads flat n _ = n + 1 < length flat.lines

pub record IsFlat (flat : Flat) : Type 0 where
  pub entries : (f : ℕ) → f < length flat.functions → (function_of flat f).entry < length flat.lines
  pub each : (n : ℕ) (o : Op) → slice_get flat.lines n ≡ Some o → Leads flat n o
