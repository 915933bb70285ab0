-- Flat code that overwrites no reference: what the reference registers of a frame hold at each line, NULL or anything,
-- and that a register which gets a reference is NULL before, or gives up its own.
use Rattle.std.specs.Prelude.{◌≡◌, ◌≢◌, ℕ, ◌+◌, ◌<◌, ◌==◌, ◌⊎◌, Bool, true, false, length, slice_get, Some}
use Rattle.std.specs.Prelude.{if◌then◌else◌}
use Rattle.sharc_code.specs.{declared.code.Parameter.Parameter, declared.instr.Cell.Cell}
use Rattle.sharc_code.specs.declared.instr.Register.{Register}
use Rattle.sharc_code.specs.declared.code.Parameter.TheVariants as parameters
use Rattle.sharc_code.specs.declared.instr.Cell.TheVariants as cells
use Rattle.sharc_code.specs.declared.instr.Register.TheVariants as registers
use Rattle.sharc_flat.specs.{declared.op.Op.Op, Machine.{Flat, function_of}, Framed.IsWide}
use Rattle.sharc_flat.specs.declared.op.Op.TheVariants as op

-- what a reference register holds: NULL, or anything
pub data Slot : Type 0 where
  free : Slot
  full : Slot

-- what is of the first kind is of the second
abbrev pub Fits : Slot → Slot → Type 0
Fits free free = Unit {0}
Fits free full = Unit {0}
Fits full free = ⊥
Fits full full = Unit {0}

-- the registers of a frame
abbrev pub Slots : Type 0
Slots = ℕ → Slot

abbrev pub with_slot : Slots → ℕ → Slot → Slots
with_slot s r x k = if k == r then x else s k

-- what goes from the second register to the first
abbrev pub with_moved : Slots → ℕ → ℕ → Slots
with_moved s r from = with_slot (with_slot s from free) r (s from)

abbrev pub without_cell : Slots → Cell → Slots
without_cell s (cells.Global g place) = s
without_cell s (cells.GlobalAt g i) = s
without_cell s (cells.Object r n) = with_slot s r free
without_cell s (cells.ObjectAt r i) = with_slot s r free

abbrev pub slot_of : Slots → Cell → Slot
slot_of s (cells.Global g place) = free
slot_of s (cells.GlobalAt g i) = free
slot_of s (cells.Object r n) = s r
slot_of s (cells.ObjectAt r i) = s r

abbrev pub without_handed : Slots → Register → Slots
without_handed s (registers.Int i) = s
without_handed s (registers.Reference r) = with_slot s r free

-- what a call leaves in the register of its result
abbrev pub result_slot : Bool → Slot
result_slot true = full
result_slot false = free

module _ (flat : Flat) (owner : ℕ → ℕ) (gives : ℕ → Bool) (slots : ℕ → Slots) where
  -- a line of this function, where registers hold what these hold
  pub record Enters (f : ℕ) (s : Slots) (pc : ℕ) : Type 0 where
    pub inside : pc < length flat.lines
    pub owned : owner pc ≡ f
    pub fits : (k : ℕ) → Fits (s k) (slots pc k)

  -- what a function finds in its first registers is what the caller has past those of its own frame
  pub record Calls (f : ℕ) (s : Slots) (refs : ℕ) : Type 0 where
    pub known : f < length flat.functions
    pub fits : (k : ℕ) → Fits (s (refs + k)) (slots (function_of flat f).entry k)

  -- after the call, in the caller's frame
  pub record Resumes (f : ℕ) (s : Slots) (refs pc g : ℕ) : Type 0 where
    pub inside : pc < length flat.lines
    pub owned : owner pc ≡ f
    pub below : (k : ℕ) → k < refs → Fits (s k) (slots pc k)
    pub result : Fits (result_slot (gives g)) (slots pc refs)

  -- a result alone is left
  pub record Leaves (f : ℕ) (s : Slots) : Type 0 where
    pub result : Fits (s 0) (result_slot (gives f))
    pub others : (k : ℕ) → 0 < k → s k ≡ free

  abbrev pub Level : ℕ → ℕ → Slots → Op → Type 0
  Level pc f s (op.Compute width o i a b spot) = IsWide width × Enters f s (pc + 1)
  Level pc f s (op.Negate width i a spot) = IsWide width × Enters f s (pc + 1)
  Level pc f s (op.Skip n) = Enters f s (pc + 1 + n)
  Level pc f s (op.SkipIfZero i n) = Enters f s (pc + 1 + n) × Enters f s (pc + 1)
  Level pc f s (op.SkipIfNull r n) = Enters f (with_slot s r free) (pc + 1 + n) × Enters f s (pc + 1)
  Level pc f s (op.Jump to) = Enters f s to
  Level pc f s (op.Call g ints refs spot) = Calls g s refs × Resumes f s refs (pc + 1) g
  Level pc f s (op.Return spot) = Leaves f s
  Level pc f s (op.Null r) = (s r ≡ free) × Enters f s (pc + 1)
  Level pc f s (op.Local r x) = (s r ≡ free) × Enters f (with_slot s r (s x)) (pc + 1)
  Level pc f s (op.MoveReference r from) = ((r ≡ from) × Enters f s (pc + 1))
      ⊎ ((s r ≡ free) × (r ≢ from) × Enters f (with_moved s r from) (pc + 1))
  Level pc f s (op.Pop r) = Enters f (with_slot s r free) (pc + 1)
  Level pc f s (op.Settle x from) = (x ≢ from) × Enters f (with_moved s x from) (pc + 1)
  Level pc f s (op.LoadRef r cell spot) = (s r ≡ free) × Enters f (with_slot s r full) (pc + 1)
  Level pc f s (op.StoreRef r cell spot) = Enters f (with_slot s r free) (pc + 1)
  Level pc f s (op.New r count cells spot) = (s r ≡ free) × Enters f (with_slot s r full) (pc + 1)
  Level pc f s (op.TakeCell r cell spot) = (s r ≡ free) × Enters f (with_slot s r full) (pc + 1)
  Level pc f s (op.TakeLocal r x spot) = (s r ≡ free) × (r ≢ x) × Enters f (with_moved s r x) (pc + 1)
  Level pc f s (op.Free r layout spot) = Enters f (with_slot s r free) (pc + 1)
  Level pc f s (op.Lock cell spot) = Enters f (without_cell s cell) (pc + 1)
  Level pc f s (op.Unlock r cell spot) = (s r ≡ free) × Enters f (with_slot s r (slot_of s cell)) (pc + 1)
  Level pc f s (op.Spawn i g from spot) = Enters f (without_handed s from) (pc + 1)
  -- the other operations leave the references as they are
  Level pc f s _ = Enters f s (pc + 1)

  -- a thread's argument is what the function finds
  abbrev pub Takes : Slots → Parameter → Type 0
  Takes s parameters.Reference = s 0 ≡ full
  Takes s _ = Unit {0}

  pub record IsEntry (f : ℕ) : Type 0 where
    pub inside : (function_of flat f).entry < length flat.lines
    pub owned : owner (function_of flat f).entry ≡ f
    pub takes : Takes (slots (function_of flat f).entry) (function_of flat f).parameter

pub record IsLevel (flat : Flat) : Type 0 where
  -- the function of each line, whether a function gives a reference, and what the registers hold at each line
  pub owner : ℕ → ℕ
  pub gives : ℕ → Bool
  pub slots : ℕ → Slots
  pub entries : (f : ℕ) → f < length flat.functions → IsEntry flat owner gives slots f
  pub each : (pc : ℕ) (o : Op) → slice_get flat.lines pc ≡ Some o
      → Level flat owner gives slots pc (owner pc) (slots pc) o
