-- The cause of a refused check of an access: the check of another thread that its report names, and what came between
-- the two.
use Rattle.std.specs.Prelude.{◌≡◌, ◌≢◌, ◌<◌, false, ℕ, ◌⊎◌, Bool, true, List, [], ◌∷◌, ◌++◌, Option, Some, None}
use Rattle.sharc_tree.specs.{declared.event.Object.Object, declared.event.SourceEvent.SourceEvent}
use Rattle.sharc_word.specs.declared.step.TheConstants.{THREADS}
use Rattle.sharc_heap.specs.{declared.shadow_word.Kind.Kind, declared.shadow_word.Kind.TheVariants.{Read, Write}}
use Rattle.sharc_heap.specs.{Accesses.{note_of, site_at}, ShadowWord.{is_written, stands}}
use Rattle.sharc_code.specs.{declared.code.Code.Code, declared.shape.Shape.Shape, declared.state.ConflictAt.ConflictAt}
use Rattle.sharc_code.specs.{declared.state.Stop.TheVariants.Conflict, Layout.Fits, Machine.{Machine, instr_at}}
use Rattle.sharc_code.specs.{Path.{begun, may_go}, Runs.{Turn, Global, told_by}}
use Rattle.sharc_code.specs.Whole.{CheckedRun, Erase, one_thread, place_after}
use Rattle.sharc_meaning.specs.{Events.{Access, access_by, begins, frees, granule_of}, Obeys.{Obeys, until_gone}}
use Rattle.sharc_meaning.specs.Store.{is_gone}
use Rattle.sharc_invariant.specs.{Types.Targets, Labels.Labels, Typed.IsWellTyped, State.IsSmall}
use Rattle.sharc_history_laws.specs.Conflicts.{IsCheck}
use Rattle.sharc_history_laws.specs.Followed.{ChecksAreFollowed, access_of, access_checked, IsOfAccess}
use Rattle.sharc_history_laws.specs.History.{history_of}

-- ---- the check that a report names
-- the site of the thread's note of this kind of the granule and epoch of a conflict, if it has one
abbrev pub noted_site : Global Machine → ConflictAt → (thread : ℕ) → Kind → Option ℕ
noted_site g c thread kind = site_at (note_of (g.threads thread).own.table c.granule kind) c.epoch

-- another thread than t, whose bit stood in the word that was found
abbrev pub Stood : ConflictAt → (t j : ℕ) → Type 0
Stood c t j = (j ≢ t) × (stands c.old j ≡ true)

-- the thread was stopped at a check of the same granule in the same epoch
pub record StoppedThere (g : Global Machine) (c : ConflictAt) (thread : ℕ) (d : ConflictAt) : Type 0 where
  pub is : (g.threads thread).own.stop ≡ Some (Conflict d)
  pub granule : d.granule ≡ c.granule
  pub epoch : d.epoch ≡ c.epoch

-- Of a refused write: of a thread whose bit stood its write, else its read, else its refused check. Of a refused read:
-- the write of a thread whose bit stood and which has one; where there is none, a write that was refused where the
-- written bit did not stand.
pub data IsNamed (g : Global Machine) (t : ℕ) (c : ConflictAt) (j : ℕ) (kind : Kind) (site : ℕ) : Type 0 where
  OfWrite : Stood c t j → kind ≡ Write → noted_site g c j Write ≡ Some site → IsNamed g t c j kind site
  OfRead : c.kind ≡ Write → Stood c t j → noted_site g c j Write ≡ None → kind ≡ Read
      → noted_site g c j Read ≡ Some site → IsNamed g t c j kind site
  OfStop : c.kind ≡ Write → Stood c t j → noted_site g c j Write ≡ None → noted_site g c j Read ≡ None
      → (d : ConflictAt) → StoppedThere g c j d → d.kind ≡ kind → d.site ≡ site → IsNamed g t c j kind site
  OfFirst : c.kind ≡ Read → ((u : ℕ) → Stood c t u → noted_site g c u Write ≡ None) → (d : ConflictAt)
      → StoppedThere g c j d → d.kind ≡ Write → is_written d.old ≡ false → kind ≡ Write → d.site ≡ site
      → IsNamed g t c j kind site

-- ---- its cause
-- no turn of these, which follow those, makes, gives or frees the object, or ends thread j
abbrev pub NothingBetween : Code → Shape → (between earlier : List Turn) → Object → (j : ℕ) → Type 0
NothingBetween code s between earlier o j = (after : List Turn) (turn : Turn) (before : List Turn)
    → between ≡ after ++ turn ∷ before
    → (e : SourceEvent) → told_by (one_thread code s) (Erase code s (before ++ earlier))
    (place_after code s (before ++ earlier)) turn ≡ Some e
    → (begins o e ≡ false) × (frees o e ≡ false) × (is_gone e.act ≡ true → e.thread ≢ j)

-- The report is of a check of thread t that was refused, of this access; earlier in the run thread j, which is another
-- one, made at this site the check of an access to the same granule, which it then made, is next to make or was stopped
-- at; one of the two is a write; and between the two checks the object had no New, Give or Freed, and thread j did not
-- end.
pub record IsCause (code : Code) (s : Shape) (before : List Turn) (report : Turn) (c : ConflictAt) (j : ℕ) (kind : Kind)
    (site : ℕ) : Type 0 where
  pub other : j ≢ report.thread
  pub write : (c.kind ≡ Write) ⊎ (kind ≡ Write)
  pub is_report : IsCheck code s before report report.thread c.kind c.granule c.site false
  pub refused : IsOfAccess code s [] report before report.thread c.site false
  pub between : List Turn
  pub check : Turn
  pub earlier : List Turn
  pub parts : before ≡ between ++ check ∷ earlier
  pub passed : Bool
  pub is_check : IsCheck code s earlier check j kind c.granule site passed
  pub named : IsOfAccess code s between check earlier j site passed
  pub object : named.access.cell.object ≡ refused.access.cell.object
  pub granule : granule_of named.access.cell ≡ granule_of refused.access.cell
  pub nothing : NothingBetween code s between (check ∷ earlier) refused.access.cell.object j

-- a refused check of the run, with which its thread was stopped, and the cause
pub record ShowsCause (code : Code) (s : Shape) (run : List Turn) (t : ℕ) (c : ConflictAt) (j : ℕ) (kind : Kind)
    (site : ℕ) : Type 0 where
  pub later : List Turn
  pub report : Turn
  pub before : List Turn
  pub parts : run ≡ later ++ report ∷ before
  pub thread : report.thread ≡ t
  pub cause : IsCause code s before report c j kind site

-- Of each thread that was stopped at a check of an access: whatever check a report may name, by the notes and stops at
-- the end of the run, is the cause.
abbrev pub NamesAreCauses : Type 0
NamesAreCauses = (x : Targets) (code : Code) (s : Shape) (ls : Labels) → IsWellTyped x code ls → Fits code s
    → IsSmall code s → ChecksAreFollowed code
    → (run : List Turn) → CheckedRun code s run
    → (t : ℕ) (c : ConflictAt) → ((place_after code s run).threads t).own.stop ≡ Some (Conflict c)
    → (j : ℕ) (kind : Kind) (site : ℕ) → IsNamed (place_after code s run) t c j kind site
    → ShowsCause code s run t c j kind site

-- And there is one: of a refused write of each thread whose bit stood, of which there is one; of a refused read of some
-- thread.
pub record HasNamed (g : Global Machine) (t : ℕ) (c : ConflictAt) : Type 0 where
  pub stood : (j : ℕ) × Stood c t j
  pub of_write : c.kind ≡ Write → (j : ℕ) → Stood c t j → (kind : Kind) × (site : ℕ) × IsNamed g t c j kind site
  pub of_read : c.kind ≡ Read → (j : ℕ) × (j < THREADS) × (site : ℕ) × IsNamed g t c j Write site

abbrev pub ReportsHaveNamed : Type 0
ReportsHaveNamed = (x : Targets) (code : Code) (s : Shape) (ls : Labels) → IsWellTyped x code ls → Fits code s
    → IsSmall code s
    → (run : List Turn) → CheckedRun code s run
    → (t : ℕ) (c : ConflictAt) → ((place_after code s run).threads t).own.stop ≡ Some (Conflict c)
    → HasNamed (place_after code s run) t c

-- a thread that was not started is as it begins, so it has no note and no stop
abbrev pub UnstartedAreBegun : Type 0
UnstartedAreBegun = (x : Targets) (code : Code) (s : Shape) (ls : Labels) → IsWellTyped x code ls → Fits code s
    → IsSmall code s
    → (run : List Turn) → CheckedRun code s run
    → (u : ℕ) → (place_after code s run).started u ≡ false → (place_after code s run).threads u ≡ begun code s u

-- ---- the rules
-- The histories that go on with the access of thread t that was refused, behind the other access where that is not made
-- yet, keep no rules.
pub data GoesOn (code : Code) (s : Shape) (before : List Turn) (t : ℕ) (a : Access) : Type 0 where
  -- the other access was made
  WasMade : ((e : SourceEvent) → e.thread ≡ t → access_by e.act ≡ Some a
      → Obeys (history_of code s before ++ e ∷ []) until_gone → ⊥) → GoesOn code s before t a
  -- it is what thread j, which may go on, makes next
  IsNextOf : (j : ℕ) → may_go ((place_after code s before).threads j).at.state ≡ true
      → (b : Access) → access_of code ((place_after code s before).threads j)
      (instr_at code ((place_after code s before).threads j).at.pc) ≡ Some b
      → ((d e : SourceEvent) → d.thread ≡ j → access_by d.act ≡ Some b → e.thread ≡ t → access_by e.act ≡ Some a
      → Obeys (history_of code s before ++ d ∷ e ∷ []) until_gone → ⊥)
      → GoesOn code s before t a

-- the first check of an access in the run that was refused, and the access
pub record BreaksRules (code : Code) (s : Shape) (run : List Turn) : Type 0 where
  pub later : List Turn
  pub report : Turn
  pub before : List Turn
  pub parts : run ≡ later ++ report ∷ before
  pub conflict : ConflictAt
  pub is_check : IsCheck code s before report report.thread conflict.kind conflict.granule conflict.site false
  pub first : (u : ℕ) (d : ConflictAt) → ((place_after code s before).threads u).own.stop ≡ Some (Conflict d) → ⊥
  pub access : Access
  pub is : access_checked code ((place_after code s before).threads report.thread) ≡ Some access
  pub breaks : GoesOn code s before report.thread access

-- so it is where a thread has stopped at the check of an access
abbrev pub AccessReportsBreakRules : Type 0
AccessReportsBreakRules = (x : Targets) (code : Code) (s : Shape) (ls : Labels) → IsWellTyped x code ls → Fits code s
    → IsSmall code s → ChecksAreFollowed code
    → (run : List Turn) → CheckedRun code s run → (t : ℕ) (c : ConflictAt)
    → ((place_after code s run).threads t).own.stop ≡ Some (Conflict c) → BreaksRules code s run
