-- The words, registers and notes of the running machine, and when a world of the proof is theirs.
use Rattle.std.specs.Prelude.{ℕ, suc, ◌+◌, ◌*◌, ◌/◌, ◌≡◌, ◌<◌, ◌≤◌, ◌≢◌, ◌==◌, ◌&&◌, ◌||◌, Bool, true, false, List}
use Rattle.std.specs.Prelude.{take, Option, Some, None, slice_index, nat_lt, if◌then◌else◌}
use Rattle.std.specs.List.{list_any}
use Rattle.sharc_word.specs.declared.step.TheConstants.{THREADS}
use Rattle.sharc_heap.specs.{declared.shadow_word.Kind.Kind, declared.shadow_word.Kind.TheVariants.{Read, Write}}
use Rattle.sharc_heap.specs.{declared.access_table.Note.Note, Accesses.note_of}
use Rattle.sharc_heap.specs.{ShadowWord.{epoch_of, is_written, stands}, State.NewView}
use Rattle.sharc_locks.specs.HeldLog.{object_of}
use Rattle.sharc_code.specs.{declared.code.Code.Code, declared.code.Parameter.Parameter, declared.instr.Instr.Instr}
use Rattle.sharc_code.specs.{declared.shape.Shape.Shape, declared.state.TurnState.TurnState}
use Rattle.sharc_code.specs.{declared.state.TurnState.TheVariants.Ended, declared.state.Stage.Stage}
use Rattle.sharc_code.specs.declared.state.Stage.TheVariants.{Rests, Makes, Lowers, Links, Withdraws, WithdrawsFrom}
use Rattle.sharc_code.specs.declared.state.Stage.TheVariants.{Leaves, Enters}
use Rattle.sharc_code.specs.Layout.{granules, first_shadow, state_word, function_word, argument_word}
use Rattle.sharc_code.specs.Arithmetic.{holds, int_of}
use Rattle.sharc_code.specs.{Machine.{Machine, instr_at, function_of, reference_of, size_of}, Runs.{Global, put}}
use Rattle.sharc_code.specs.declared.code.Parameter.TheVariants as parameters
use Rattle.sharc_code.specs.declared.instr.Instr.TheVariants as instrs
use Rattle.sharc_invariant.specs.Granules.{GranuleState}
use Rattle.sharc_invariant.specs.Types.{Targets, Content, mode_at, type_at, field_in, is_private, is_mutex, is_pointer}
use Rattle.sharc_invariant.specs.Types.Content.{Integer}
use Rattle.sharc_invariant.specs.World.{TypeRules, RegisterOf, ArgumentOf, LogOf, Staged, Cell, ObjectState, World}
use Rattle.sharc_invariant.specs.World.{put2, in_ref}

-- what the table of targets says of types
abbrev pub lang_of : Targets → TypeRules
lang_of x = record { private = is_private x; mode = mode_at x; cell = type_at x; granule = λ i. i / 2 }

-- ---- what one thread holds
-- a Free whose object is dead has no reference left, though its register still names the block
abbrev pub is_freed : Instr → Stage → ℕ → ℕ → Bool
is_freed (instrs.Free r layout site) (Links elements) base i = i == base + r
is_freed _ stage base i = false

abbrev pub register_of : Code → Machine → ℕ → ℕ
register_of code m i = if is_freed (instr_at code m.at.pc) m.own.stage m.at.refs i then 0 else slice_index m.refs i

abbrev pub staged_of : Stage → ℕ
staged_of (Lowers i elements found) = found
staged_of _ = 0

abbrev pub logged : Machine → ℕ → ℕ
logged m word = reference_of (object_of m.own.held word)

-- the epoch of a note plus 1, or 0
abbrev pub note_number : Option Note → ℕ
note_number None = 0
note_number (Some note) = suc note.epoch

abbrev pub is_ended : TurnState → Bool
is_ended Ended = true
is_ended _ = false

-- the thread has said that it returned
abbrev pub is_withdrawing : Stage → Bool
is_withdrawing (Withdraws row) = true
is_withdrawing (WithdrawsFrom row seen) = true
is_withdrawing Leaves = true
is_withdrawing _ = false

abbrev pub has_returned : Machine → Bool
has_returned m = is_withdrawing m.own.stage || is_ended m.at.state

-- whether the thread has withdrawn from a granule
abbrev pub has_withdrawn : Stage → List ℕ → Bool → ℕ → Bool
has_withdrawn (Withdraws row) order ended g = list_any (λ h. g == h) (take row order)
has_withdrawn (WithdrawsFrom row seen) order ended g = list_any (λ h. g == h) (take row order)
has_withdrawn Leaves order ended g = true
has_withdrawn _ order ended g = ended

abbrev pub noted_by : Machine → Kind → ℕ → ℕ
noted_by m kind g =
    if has_withdrawn m.own.stage m.own.table.order (is_ended m.at.state) g then 0
    else note_number (note_of m.own.table g kind)

-- a New that has taken a block from a list of its thread leaves the list at what the block linked to; the thread writes
-- it down when the object is made
abbrev pub making_of : Stage → Option NewView
making_of (Makes v) = Some v
making_of _ = None

abbrev pub head_with : Option NewView → List ℕ → ℕ → ℕ
head_with (Some v) heads k = if k == size_of v.arguments.block then v.head else slice_index heads k
head_with None heads k = slice_index heads k

-- the first block of the list of this size
abbrev pub head_of : Machine → ℕ → ℕ
head_of m k = head_with (making_of m.own.stage) m.own.heads k

-- ---- the argument of a thread
-- it is to make its first turn, or it has loaded its function
abbrev pub is_first : Stage → Bool
is_first Rests = true
is_first (Enters f) = true
is_first _ = false

abbrev pub is_unread : Machine → Bool
is_unread m = m.at.pc == 0 && is_first m.own.stage

abbrev pub if_reference : Parameter → ℕ → ℕ
if_reference parameters.Reference v = v
if_reference _ v = 0

-- started, and the argument is not read
abbrev pub argument_of : Code → Global Machine → ℕ → ℕ
argument_of code g t =
    if (nat_lt t THREADS && (slice_index g.words (state_word t) == 1)) && is_unread (g.threads t)
    then if_reference (function_of code (slice_index g.words (function_word t))).parameter
    (slice_index g.words (argument_word t))
    else 0

-- ---- the whole machine
pub record MachineView : Type 0 where
  pub words : ℕ → ℕ
  pub regs : ℕ → ℕ → ℕ
  pub args : ℕ → ℕ
  pub logs : ℕ → ℕ → ℕ
  pub staged : ℕ → ℕ
  pub read_notes : ℕ → ℕ → ℕ
  pub write_notes : ℕ → ℕ → ℕ

abbrev pub conc_of : Code → Global Machine → MachineView
conc_of code g = record {
  words = λ i. slice_index g.words i;
  regs = λ t. register_of code (g.threads t);
  args = argument_of code g;
  logs = λ t. logged (g.threads t);
  staged = λ t. staged_of (g.threads t).own.stage;
  read_notes = λ t. noted_by (g.threads t) Read;
  write_notes = λ t. noted_by (g.threads t) Write;
}

-- ---- words
abbrev pub shadow_at : Shape → ℕ → ℕ
shadow_at s g = first_shadow + g

abbrev pub count_at : Shape → ℕ → ℕ
count_at s o = first_shadow + granules s + 2 * o

abbrev pub length_at : Shape → ℕ → ℕ
length_at s o = first_shadow + granules s + 2 * o + 1

abbrev pub cell_at : Shape → ℕ → ℕ → ℕ
cell_at s o i = first_shadow + granules s + 2 * o + 2 + i

-- a shadow word and the notes are a granule
pub record Reads (v : ℕ) (rn wn : ℕ → ℕ → ℕ) (g : ℕ) (x : GranuleState) : Type 0 where
  pub epoch : x.epoch ≡ epoch_of v
  pub wrote : x.wrote ≡ is_written v
  pub has : (t : ℕ) → x.has t ≡ stands v t
  pub read_note : (t : ℕ) → x.read_note t ≡ rn t g
  pub write_note : (t : ℕ) → x.write_note t ≡ wn t g

-- cells: those of each live object. Live objects stand apart, within the granules; object 0 is that of all globals
pub record Apart (s : Shape) (obj : ℕ → ObjectState) (cells : ℕ → ℕ) : Type 0 where
  pub apart : (o p : ℕ) → (obj o).live ≡ true → (obj p).live ≡ true → o < p → 2 * o + 2 + cells o ≤ 2 * p
  pub within : (o g : ℕ) → (obj o).live ≡ true → 2 * g < cells o → o + 1 + g < granules s
  pub headers : (o : ℕ) → (obj o).live ≡ true → o < granules s

abbrev pub FitsContent : Content → ℕ → Type 0
FitsContent (Integer w) v = holds w (int_of v) ≡ true
FitsContent _ v = Unit {0}

-- a granule of no live object
abbrev pub IsNobodys : (ℕ → ObjectState) → (ℕ → ℕ) → ℕ → Type 0
IsNobodys obj cells p = (o g : ℕ) → (obj o).live ≡ true → 2 * g < cells o → p ≡ o + 1 + g → ⊥

-- what is noted of such a granule was noted in an earlier epoch
abbrev pub AreStale : Shape → (ℕ → ObjectState) → (ℕ → ℕ) → (ℕ → ℕ) → (ℕ → ℕ → ℕ) → (ℕ → ℕ → ℕ) → Type 0
AreStale s obj cells words rn wn = (p : ℕ) → p < granules s → IsNobodys obj cells p → (t : ℕ)
    → (rn t p ≤ epoch_of (words (shadow_at s p))) × (wn t p ≤ epoch_of (words (shadow_at s p)))

-- the granule that a shadow word and the notes of it show
abbrev pub shown : Shape → MachineView → ℕ → GranuleState
shown s c p = record {
  epoch = epoch_of (c.words (shadow_at s p));
  wrote = is_written (c.words (shadow_at s p));
  has = stands (c.words (shadow_at s p));
  read_note = λ t. c.read_notes t p;
  write_note = λ t. c.write_notes t p;
}

pub record Shows (x : Targets) (s : Shape) (cells elements : ℕ → ℕ) (c : MachineView) (w : World) : Type 0 where
  pub regs : (t i : ℕ) → in_ref w (RegisterOf t i) ≡ c.regs t i
  pub args : (t : ℕ) → in_ref w (ArgumentOf t) ≡ c.args t
  pub logs : (t word : ℕ) → in_ref w (LogOf t word) ≡ c.logs t word
  pub staged : (t : ℕ) → in_ref w (Staged t) ≡ c.staged t
  pub pointers : (o i : ℕ) → (w.obj o).live ≡ true → i < cells o → is_pointer (field_in x (w.obj o).ty i).holds ≡ true
      → (w.slots (Cell o i)).reference ≡ c.words (cell_at s o i)
  pub others : (o i : ℕ) → (w.slots (Cell o i)).reference ≢ 0
      → (i < cells o) × (is_pointer (field_in x (w.obj o).ty i).holds ≡ true)
  pub integers : (o i : ℕ) → (w.obj o).live ≡ true → i < cells o
      → FitsContent (field_in x (w.obj o).ty i).holds (c.words (cell_at s o i))
  pub counts : (o : ℕ) → o ≢ 0 → (w.obj o).live ≡ true → w.count o ≡ c.words (count_at s o)
  pub lengths : (o : ℕ) → o ≢ 0 → (w.obj o).live ≡ true → elements o ≡ c.words (length_at s o)
  pub mutexes : (o j : ℕ) → (w.obj o).live ≡ true → j < cells o → is_mutex (field_in x (w.obj o).ty j).holds ≡ true
      → w.mutex o j ≡ c.words (cell_at s o j)
  pub shadows : (o g : ℕ) → (w.obj o).live ≡ true → 2 * g < cells o
      → Reads (c.words (shadow_at s (o + 1 + g))) c.read_notes c.write_notes (o + 1 + g) (w.gran o g)
  pub stale : AreStale s w.obj cells c.words c.read_notes c.write_notes

-- what the machine does
abbrev pub store : MachineView → ℕ → ℕ → MachineView
store c at v = record c { words = put c.words at v }

abbrev pub set_reg : MachineView → ℕ → ℕ → ℕ → MachineView
set_reg c t i v = record c { regs = put2 c.regs t i v }
