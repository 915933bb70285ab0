-- What the refused checks of accesses of checked runs of typed code show. Lists of turns have the last one first.
use Rattle.std.specs.Prelude.{◌≡◌, ◌≢◌, ℕ, ◌⊎◌, Bool, true, false, List, [], ◌∷◌, ◌++◌, Option, Some, None, slice_index}
use Rattle.sharc_heap.specs.{declared.shadow_word.Kind.Kind, declared.shadow_word.Kind.TheVariants.Write}
use Rattle.sharc_heap.specs.{declared.access_table.Note.Note, Accesses.{note_of, site_at}}
use Rattle.sharc_heap.specs.ShadowWord.{stands, epoch_of}
use Rattle.sharc_code.specs.{declared.code.Code.Code, declared.instr.Instr.Instr}
use Rattle.sharc_code.specs.{declared.instr.Instr.TheVariants.{ChkRead, ChkWrite}, declared.shape.Shape.Shape}
use Rattle.sharc_code.specs.{declared.state.ConflictAt.ConflictAt, declared.state.Stop.TheVariants.Conflict}
use Rattle.sharc_code.specs.{Layout.{Fits, shadow_word}, Machine.{Machine, instr_at}, Runs.Turn}
use Rattle.sharc_code.specs.Whole.{CheckedRun, place_after}
use Rattle.sharc_invariant.specs.{Types.Targets, Labels.Labels, Typed.IsWellTyped, State.IsSmall}
use Rattle.sharc_invariant.specs.{Bits.{Touch, Untouched, CheckOf, ClearOf, WithdrawOf}, Reports.touch_at}

-- ---- checks in a run
abbrev pub site_of_check : Instr → Option ℕ
site_of_check (ChkRead c site) = Some site
site_of_check (ChkWrite c site) = Some site
site_of_check _ = None

-- the turn after these is a check that thread j makes at this site, of this kind and granule, which passed or was
-- refused
pub record IsCheck (code : Code) (s : Shape) (earlier : List Turn) (check : Turn) (j : ℕ) (kind : Kind)
    (granule site : ℕ) (passed : Bool) : Type 0 where
  pub thread : check.thread ≡ j
  pub touch : touch_at code s (place_after code s earlier) check ≡ CheckOf kind granule passed
  pub site_is : site_of_check (instr_at code ((place_after code s earlier).threads check.thread).at.pc) ≡ Some site

-- a turn of thread u that does this to shadow words neither clears that of granule p nor takes thread j out of it
abbrev pub Past : Touch → (u j p : ℕ) → Type 0
Past Untouched u j p = Unit {0}
Past (CheckOf kind q passed) u j p = Unit {0}
Past (ClearOf q) u j p = p ≢ q
Past (WithdrawOf q) u j p = p ≡ q → u ≢ j

-- thread j made a check of this kind of the granule, and since then the granule was not cleared, as it is before each
-- Give and Free of its object, and the thread did not withdraw from it, as it does when it has returned
abbrev pub MadeSince : Code → Shape → List Turn → (j p : ℕ) → Kind → Type 0
MadeSince code s [] j p kind = ⊥
MadeSince code s (one ∷ earlier) j p kind =
    ((site : ℕ) × ((passed : Bool) × IsCheck code s earlier one j kind p site passed))
    ⊎ (Past (touch_at code s (place_after code s earlier) one) one.thread j p × MadeSince code s earlier j p kind)

-- ---- reports
-- another thread than t, whose bit stands in the word, has made a check, and this kind or that one's is Write
pub record Opposes (code : Code) (s : Shape) (earlier : List Turn) (t word granule : ℕ) (kind : Kind) : Type 0 where
  pub other : ℕ
  pub apart : other ≢ t
  pub bit : stands word other ≡ true
  pub other_kind : Kind
  pub made : MadeSince code s earlier other granule other_kind
  pub write : (kind ≡ Write) ⊎ (other_kind ≡ Write)

-- the turn of the check that was refused, and what was in its way: each thread whose bit stood in the word that it
-- found had made a check of the granule, and there is such a thread besides this one where one of the two checks is of
-- kind Write
pub record ShowsConflict (code : Code) (s : Shape) (run : List Turn) (t : ℕ) (c : ConflictAt) : Type 0 where
  pub later : List Turn
  pub check : Turn
  pub earlier : List Turn
  pub parts : run ≡ later ++ check ∷ earlier
  pub is_check : IsCheck code s earlier check t c.kind c.granule c.site false
  pub word : slice_index (place_after code s earlier).words (shadow_word s c.granule) ≡ c.old
  pub epoch : epoch_of c.old ≡ c.epoch
  pub others : (j : ℕ) → stands c.old j ≡ true → (kind : Kind) × MadeSince code s earlier j c.granule kind
  pub cause : Opposes code s earlier t c.old c.granule c.kind

-- so it is of each thread that has stopped at the check of an access
abbrev pub AccessReportsShow : Type 0
AccessReportsShow = (x : Targets) (code : Code) (s : Shape) (ls : Labels) → IsWellTyped x code ls → Fits code s
    → IsSmall code s
    → (run : List Turn) → CheckedRun code s run
    → (t : ℕ) (c : ConflictAt) → ((place_after code s run).threads t).own.stop ≡ Some (Conflict c)
    → ShowsConflict code s run t c

-- ---- notes
-- thread j made a check of this kind of the granule that passed, at the site of the note, where the word had the note's
-- epoch
pub record IsNoted (code : Code) (s : Shape) (run : List Turn) (j p : ℕ) (kind : Kind) (note : Note) : Type 0 where
  pub later : List Turn
  pub check : Turn
  pub earlier : List Turn
  pub parts : run ≡ later ++ check ∷ earlier
  pub is_check : IsCheck code s earlier check j kind p note.site true
  pub epoch : epoch_of (slice_index (place_after code s earlier).words (shadow_word s p)) ≡ note.epoch

-- so it is of each note in a table of a thread
abbrev pub NotesAreOfChecks : Type 0
NotesAreOfChecks = (x : Targets) (code : Code) (s : Shape) (ls : Labels) → IsWellTyped x code ls → Fits code s
    → IsSmall code s
    → (run : List Turn) → CheckedRun code s run
    → (j p : ℕ) (kind : Kind) (note : Note) → note_of ((place_after code s run).threads j).own.table p kind ≡ Some note
    → IsNoted code s run j p kind note

-- ---- the other access of a report
-- by its table or by its own stop, the thread of this machine made a check of this kind at this site, of the granule of
-- a conflict and in its epoch
pub data Names (m : Machine) (c : ConflictAt) (kind : Kind) (site : ℕ) : Type 0 where
  ByNote : site_at (note_of m.own.table c.granule kind) c.epoch ≡ Some site → Names m c kind site
  ByStop : (d : ConflictAt) → m.own.stop ≡ Some (Conflict d) → d.granule ≡ c.granule → d.epoch ≡ c.epoch → d.kind ≡ kind
      → d.site ≡ site → Names m c kind site

-- thread j made that check in the run, and the word had that epoch
pub record CheckedThere (code : Code) (s : Shape) (run : List Turn) (j p epoch : ℕ) (kind : Kind)
    (site : ℕ) : Type 0 where
  pub later : List Turn
  pub check : Turn
  pub earlier : List Turn
  pub parts : run ≡ later ++ check ∷ earlier
  pub passed : Bool
  pub is_check : IsCheck code s earlier check j kind p site passed
  pub epoch_is : epoch_of (slice_index (place_after code s earlier).words (shadow_word s p)) ≡ epoch

abbrev pub NamedAreChecked : Type 0
NamedAreChecked = (x : Targets) (code : Code) (s : Shape) (ls : Labels) → IsWellTyped x code ls → Fits code s
    → IsSmall code s
    → (run : List Turn) → CheckedRun code s run
    → (j : ℕ) (c : ConflictAt) (kind : Kind) (site : ℕ) → Names ((place_after code s run).threads j) c kind site
    → CheckedThere code s run j c.granule c.epoch kind site
