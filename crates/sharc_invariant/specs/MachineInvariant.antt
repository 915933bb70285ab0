-- What stands of counts and of references at a place of a run, by its words and registers alone and by which objects
-- there are.
use Rattle.std.specs.Prelude.{ℕ, ◌+◌, ◌*◌, ◌≡◌, ◌≢◌, ◌==◌, ◌&&◌, Bool, true, slice_index, nat_lt, if◌then◌else◌}
use Rattle.sharc_word.specs.declared.step.TheConstants.{THREADS}
use Rattle.sharc_code.specs.{declared.state.TheConstants.FRAMES, declared.code.Code.Code, declared.instr.Cell.Cell}
use Rattle.sharc_code.specs.declared.shape.Shape.{Shape}
use Rattle.sharc_code.specs.Layout.{granules, words_of, count_word, length_word, cell_word, cell_of}
use Rattle.sharc_code.specs.{Machine.{Machine, instr_at, ref}, Path.{may_go, most_refs}, Runs.Global}
use Rattle.sharc_code.specs.declared.instr.Cell.TheVariants as cells
use Rattle.sharc_invariant.specs.Granules.{one, sum_to}
use Rattle.sharc_invariant.specs.Types.{Targets, CellMode, field_in, mode_at, type_at, type_of, cells_of, is_pointer}
use Rattle.sharc_invariant.specs.Types.{is_private}
use Rattle.sharc_invariant.specs.Labels.{Gate, Checked, Loaded, HoldsLoaded, Sole, Entry, Empty, Refers, Unknown, Label}
use Rattle.sharc_invariant.specs.Labels.{Labels}
use Rattle.sharc_invariant.specs.{World.ObjectState, Words.{register_of, argument_of, logged, staged_of}}
use Rattle.sharc_invariant.specs.State.{label_now, object_of_cell, number_in}

-- ---- references
-- the cells of an object: of the globals all, of another as many elements as its length word says
abbrev pub cells_now : Targets → Shape → Global Machine → (ℕ → ObjectState) → ℕ → ℕ
cells_now x s g obj o =
    if o == 0 then 2 * s.globals else slice_index g.words (length_word s o) * cells_of x (obj o).ty.target

-- it is a pointer cell of a live object
abbrev pub is_pointer_now : Targets → Shape → Global Machine → (ℕ → ObjectState) → ℕ → ℕ → Bool
is_pointer_now x s g obj o i =
    (obj o).live && (nat_lt i (cells_now x s g obj o) && is_pointer (field_in x (obj o).ty i).holds)

-- what it refers to
abbrev pub cell_refers : Targets → Shape → Global Machine → (ℕ → ObjectState) → ℕ → ℕ → ℕ
cell_refers x s g obj o i = if is_pointer_now x s g obj o i then slice_index g.words (cell_word s (cell_of o i)) else 0

-- what register i of thread t refers to, counted from the first of the thread. A Free whose object is gone has no
-- reference left
abbrev pub register_refers : Code → Global Machine → ℕ → ℕ → ℕ
register_refers code g t = register_of code (g.threads t)

-- the object of the mutex in this word, where thread t holds it
abbrev pub log_refers : Global Machine → ℕ → ℕ → ℕ
log_refers g t = logged (g.threads t)

-- what a Free of thread t has taken out of a cell and not lowered yet
abbrev pub hand_refers : Global Machine → ℕ → ℕ
hand_refers g t = staged_of (g.threads t).own.stage

-- how many references to object o there are
abbrev pub references_to : Targets → Code → Shape → Global Machine → (ℕ → ObjectState) → ℕ → ℕ
references_to x code s g obj o =
    sum_to THREADS (λ t. sum_to (FRAMES * most_refs code.functions.items) (λ i. one (register_refers code g t i) o))
    + (sum_to THREADS (λ t. one (argument_of code g t) o)
    + (sum_to THREADS (λ t. sum_to (words_of s) (λ word. one (log_refers g t word) o))
    + (sum_to THREADS (λ t. one (hand_refers g t) o)
    + sum_to (granules s) (λ p. sum_to (2 * granules s) (λ i. one (cell_refers x s g obj p i) o)))))

-- ---- one reference
-- what thread t has is live, and where it is private it is that thread's
pub record Has (x : Targets) (obj : ℕ → ObjectState) (t o : ℕ) : Type 0 where
  pub live : (obj o).live ≡ true
  pub own : is_private x (obj o).ty ≡ true → (obj o).owner ≡ t

-- what cell i of object p refers to is live and of the type that the cell's type says, and it is private only where the
-- cell is, with one owner
pub record IsTyped (x : Targets) (obj : ℕ → ObjectState) (p i o : ℕ) : Type 0 where
  pub live : (obj o).live ≡ true
  pub type : (obj o).ty ≡ type_at x (obj p).ty p i
  pub private : is_private x (obj o).ty ≡ true → mode_at x (obj p).ty i ≡ CellMode.Private
  pub own : is_private x (obj o).ty ≡ true → (obj o).owner ≡ (obj p).owner

-- ---- between a check or a load, and what it is for
-- the object with the cell is the globals, or this thread's register refers to it
abbrev pub IsKept : (ℕ → ObjectState) → Machine → Cell → Type 0
IsKept obj m (cells.Global g p) = (obj 0).live ≡ true
IsKept obj m (cells.GlobalAt g i) = (obj 0).live ≡ true
IsKept obj m (cells.Object r i) = (ref m r ≢ 0) × ((obj (ref m r)).live ≡ true)
IsKept obj m (cells.ObjectAt r i) = (ref m r ≢ 0) × ((obj (ref m r)).live ≡ true)

-- the cell is a pointer there, and holds what was loaded
abbrev pub HoldsStill : Targets → Shape → Global Machine → (ℕ → ObjectState) → Machine → Cell → Type 0
HoldsStill x s g obj m c = cell_refers x s g obj (object_of_cell m c) (number_in m c) ≡ m.pending

-- no other reference to it is anywhere, and its count is 1
pub record IsAlone (x : Targets) (code : Code) (s : Shape) (g : Global Machine) (obj : ℕ → ObjectState)
    (t k o : ℕ) : Type 0 where
  pub some : o ≢ 0
  pub live : (obj o).live ≡ true
  pub count : slice_index g.words (count_word s o) ≡ 1
  pub registers : (u i : ℕ) → register_refers code g u i ≡ o → (u ≡ t) × (i ≡ k)
  pub arguments : (u : ℕ) → argument_of code g u ≢ o
  pub logs : (u word : ℕ) → log_refers g u word ≢ o
  pub hands : (u : ℕ) → hand_refers g u ≢ o
  pub cells : (p i : ℕ) → cell_refers x s g obj p i ≢ o

abbrev pub WindowStands : Targets → Code → Shape → Global Machine → (ℕ → ObjectState) → ℕ → Machine → Gate → Type 0
WindowStands x code s g obj t m (Checked write c) = IsKept obj m c
WindowStands x code s g obj t m (Loaded c) = IsKept obj m c × HoldsStill x s g obj m c
WindowStands x code s g obj t m (HoldsLoaded c) = IsKept obj m c × HoldsStill x s g obj m c
WindowStands x code s g obj t m (Sole r cleared) = IsAlone x code s g obj t (m.at.refs + r) (ref m r)
WindowStands x code s g obj t m _ = Unit {0}

-- a gate at which a pointer cell was loaded, and the value is not raised yet
abbrev pub WasLoaded : Gate → Type 0
WasLoaded (Loaded c) = Unit {0}
WasLoaded (HoldsLoaded c) = Unit {0}
WasLoaded _ = ⊥

abbrev pub IsSole : Gate → ℕ → Type 0
IsSole (Sole q cleared) r = q ≡ r
IsSole _ r = ⊥

-- a thread that may go on
abbrev pub IsOn : Global Machine → ℕ → Type 0
IsOn g t = (g.started t ≡ true) × (may_go (g.threads t).at.state ≡ true)

-- where it stands, and what is known there
abbrev pub label_of : Code → Labels → Machine → Label
label_of code ls m = label_now (ls.at m.at.pc) (instr_at code m.at.pc) m.own.stage

abbrev pub HasType : (ℕ → ObjectState) → (ℕ → ℕ) → ℕ → Entry → Type 0
HasType obj refs o (Refers s) = (obj o).ty ≡ type_of refs o s
HasType obj refs o Unknown = Unit {0}
HasType obj refs o Empty = ⊥

pub record MachineInvariant (x : Targets) (code : Code) (s : Shape) (ls : Labels) (g : Global Machine)
    (obj : ℕ → ObjectState) : Type 0 where
  -- the count word of each live object is the number of references to it
  pub counts : (o : ℕ) → o ≢ 0 → (obj o).live ≡ true
      → slice_index g.words (count_word s o) ≡ references_to x code s g obj o
  -- each reference is to a live object; a private object is referred to by its owner's registers, held mutexes and
  -- private cells alone
  pub registers : (t i : ℕ) → register_refers code g t i ≢ 0 → Has x obj t (register_refers code g t i)
  pub arguments : (t : ℕ) → argument_of code g t ≢ 0 → Has x obj t (argument_of code g t)
  pub logs : (t word : ℕ) → log_refers g t word ≢ 0 → Has x obj t (log_refers g t word)
  pub hands : (t : ℕ) → hand_refers g t ≢ 0 → Has x obj t (hand_refers g t)
  pub cells : (p i : ℕ) → cell_refers x s g obj p i ≢ 0 → IsTyped x obj p i (cell_refers x s g obj p i)
  -- a register of the frame on top refers to an object of the type that its place says
  pub typed : (t r : ℕ) → IsOn g t → register_refers code g t ((g.threads t).at.refs + r) ≢ 0
      → HasType obj (λ q. register_refers code g t ((g.threads t).at.refs + q))
      (register_refers code g t ((g.threads t).at.refs + r)) ((label_of code ls (g.threads t)).env r)
  -- what stands between a check and its access, a load and its raise, and a test of a sole reference and its Give or
  -- Free
  pub windows : (t : ℕ) → IsOn g t → WindowStands x code s g obj t (g.threads t) (label_of code ls (g.threads t)).gate
  -- no thread has loaded a reference to an object that another has alone
  pub unloaded : (t u r : ℕ) → IsOn g t → IsOn g u → IsSole (label_of code ls (g.threads t)).gate r
      → WasLoaded (label_of code ls (g.threads u)).gate → (g.threads u).pending ≢ ref (g.threads t) r
