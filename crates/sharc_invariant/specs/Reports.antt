-- What the turns find that may end in a report: a check is refused where another thread has passed one that it
-- conflicts with, and only where another has made one; and a test of a sole reference finds how many references there
-- are.
use Rattle.std.specs.Prelude.{ℕ, ◌≡◌, ◌≢◌, ◌≤◌, ◌⊎◌, Bool, true, false, List, ◌∷◌, slice_index}
use Rattle.sharc_heap.specs.{declared.shadow_word.Kind.Kind, declared.shadow_word.Kind.TheVariants.Write}
use Rattle.sharc_heap.specs.ShadowWord.{stands}
use Rattle.sharc_code.specs.{declared.code.Code.Code, declared.instr.Instr.TheVariants.TestSole}
use Rattle.sharc_code.specs.{declared.shape.Shape.Shape, Layout.{Fits, shadow_word}, Machine.{Machine, instr_at, ref}}
use Rattle.sharc_code.specs.{Path.may_go, Runs.{Turn, Global, IsRun, at, after_turn, result_of}}
use Rattle.sharc_code.specs.Whole.{one_thread, bounds}
use Rattle.sharc_invariant.specs.{Types.Targets, Labels.Labels, Typed.IsWellTyped, State.IsSmall}
use Rattle.sharc_invariant.specs.{Opened.{first_world, first_place}, Objects.objects_after}
use Rattle.sharc_invariant.specs.{MachineInvariant.references_to, Bits.{Marks, Touch, CheckOf, touch_of, marks_after}}

-- what the turn is to shadow words
abbrev pub touch_at : Code → Shape → Global Machine → Turn → Touch
touch_at code s g tr = touch_of s (instr_at code (g.threads tr.thread).at.pc) (g.threads tr.thread) (result_of tr.event)
    ((after_turn bounds (one_thread code s) g tr).threads tr.thread)

-- a check of thread k on a granule with this word, on which this was done since its last Clear
pub record CheckStands (k : ℕ) (kind : Kind) (word : ℕ) (marks : Marks) (passed : Bool) : Type 0 where
  -- a refused one comes from a check that another thread made, passed or refused, whose bit stands, and one of the two
  -- is of kind Write
  pub cause : passed ≡ false
      → (j : ℕ) × (j ≢ k) × (stands word j ≡ true) × (marks.made j ≡ true) × ((kind ≡ Write) ⊎ (marks.writes j ≡ true))
  -- where another thread has passed one, and one of the two is of kind Write, it is refused
  pub found : (j : ℕ) → j ≢ k → ((kind ≡ Write) × (marks.passed j ≡ true)) ⊎ (marks.passed_write j ≡ true)
      → passed ≡ false

-- so it is of each check of each run of typed code
abbrev pub RunsConflict : Type 0
RunsConflict = (x : Targets) (code : Code) (s : Shape) (ls : Labels) → IsWellTyped x code ls → Fits code s
    → IsSmall code s
    → (turns : List Turn) (tr : Turn) → IsRun bounds (one_thread code s) (first_place code s) (tr ∷ turns)
    → (kind : Kind) (p : ℕ) (passed : Bool)
    → touch_at code s (at bounds (one_thread code s) (first_place code s) turns) tr ≡ CheckOf kind p passed
    → CheckStands tr.thread kind (slice_index (at bounds (one_thread code s) (first_place code s) turns).words
    (shadow_word s p)) (marks_after code s (first_place code s) turns p) passed

-- ---- tests of sole references
-- a test found this of an object that has so many references
pub record TestStands (found references : ℕ) (goes : Bool) : Type 0 where
  pub number : found ≡ references
  -- where it stops the thread there is one besides that of the register
  pub refused : goes ≡ false → 2 ≤ references

abbrev pub RunsTest : Type 0
RunsTest = (x : Targets) (code : Code) (s : Shape) (ls : Labels) → IsWellTyped x code ls → Fits code s → IsSmall code s
    → (turns : List Turn) (tr : Turn) → IsRun bounds (one_thread code s) (first_place code s) (tr ∷ turns)
    → (r site : ℕ) → instr_at code ((at bounds (one_thread code s) (first_place code s) turns).threads tr.thread).at.pc
    ≡ TestSole r site
    → TestStands (result_of tr.event)
    (references_to x code s (at bounds (one_thread code s) (first_place code s) turns)
    (objects_after code s ls (first_place code s) (first_world x).obj turns)
    (ref ((at bounds (one_thread code s) (first_place code s) turns).threads tr.thread) r))
    (may_go ((after_turn bounds (one_thread code s)
    (at bounds (one_thread code s) (first_place code s) turns) tr).threads tr.thread).at.state)
