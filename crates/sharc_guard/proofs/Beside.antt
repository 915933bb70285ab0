-- What flat and guarded code have in common where the one is beside the other.
use Rattle.sharc_guard.proofs.Imports.{◌≡◌, ℕ, ℤ, pos, suc, Bool, List, [], ◌∷◌, length, Some, refl, ap, CellAt, PlaceMode, LockedGlobal, Use, Cell, Register, Frame, is_zero, Flat, Caller, At, cell_at, is_of_null, cell_mode_of, instance_mode, take_kind_of, variable_of, argument, Program, Thread, Running, place, guarded}
use Rattle.sharc_code.specs.Arithmetic as Code
use Rattle.sharc_code.specs.Says as Says
use Rattle.sharc_guard.specs.Machine as Form

-- ---- the words of both
pub zero_same : (z : ℤ) → Code.is_zero z ≡ is_zero z
zero_same (pos (suc n)) = refl
zero_same _ = refl

pub kind_same : (u : Use) → Says.kind_of u ≡ take_kind_of u
kind_same (Use.Free x) = refl
kind_same _ = refl

pub variable_same : (u : Use) → Says.variable_of u ≡ variable_of u
variable_same (Use.Cast (Some x)) = refl
variable_same (Use.Free (Some x)) = refl
variable_same _ = refl

-- ---- guarded code beside flat code
abbrev pub callers : (ℕ → ℕ) → List Caller → List Frame
callers pl [] = record { pc = 1; ints = 0; refs = 0 } ∷ []
callers pl (c ∷ rest) = record { pc = pl c.pc; ints = c.ints; refs = c.refs } ∷ callers pl rest

pub callers_length : (pl : ℕ → ℕ) (cs : List Caller) → length (callers pl cs) ≡ suc (length cs)
callers_length pl [] = refl
callers_length pl (c ∷ rest) = ap suc (callers_length pl rest)

-- at this place, with this log and what it lowered
abbrev pub beside : (ℕ → ℕ) → At → ℕ → List CellAt → List ℕ → Thread
beside pl m q held lowered = record {
  pc = q;
  ints_from = m.int_base;
  refs_from = m.ref_base;
  ints = m.ints;
  refs = m.refs;
  pending = m.pending;
  frames = callers pl m.frames;
  held = held;
  function = m.function;
  lowered = lowered;
  events = m.events;
  phase = Running;
}

module _ (dropped : ℕ → Bool) (flat : Flat) (m : At) (q : ℕ) (h : List CellAt) (l : List ℕ) where
  abbrev p : Program
  p = guarded dropped flat

  abbrev me : Thread
  me = beside (place dropped flat.lines) m q h l

  pub cell_same : (c : Cell) → Form.cell_at p me c ≡ cell_at flat.globals m c
  cell_same (Cell.Global g n) = refl
  cell_same _ = refl

  pub null_same : (c : Cell) → Form.is_of_null me c ≡ is_of_null m c
  null_same (Cell.Global g n) = refl
  null_same _ = refl

  pub argument_same : (r : Register) → Form.argument me r ≡ argument m r
  argument_same (Register.Int i) = refl
  argument_same (Register.Reference r) = refl

  pub mode_same : (c : CellAt) (mode : PlaceMode) → Form.mode_of p me c mode ≡ cell_mode_of flat.globals m c mode
  mode_same c (LockedGlobal g n) = refl
  mode_same c _ = refl

  pub object_same : (mode : PlaceMode) → Form.mode_of p me (Says.made_cell 0 0) mode ≡ instance_mode flat.globals m mode
  object_same (LockedGlobal g n) = refl
  object_same _ = refl
