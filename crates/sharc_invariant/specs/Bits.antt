-- What was done to the shadow word of each granule since its last Clear, told by the turns of a run, and what stands of
-- its bits.
use Rattle.std.specs.Prelude.{ℕ, ◌≡◌, ◌<◌, ◌==◌, ◌||◌, Bool, true, false, List, [], ◌∷◌, slice_index, if◌then◌else◌}
use Rattle.sharc_heap.specs.{declared.shadow_word.Kind.Kind, declared.shadow_word.Kind.TheVariants.{Read, Write}}
use Rattle.sharc_heap.specs.ShadowWord.{is_written, stands}
use Rattle.sharc_code.specs.{declared.code.Code.Code, declared.instr.Instr.Instr}
use Rattle.sharc_code.specs.declared.instr.Instr.TheVariants.{ChkRead, ChkWrite, Clear, Free, Exit}
use Rattle.sharc_code.specs.{declared.shape.Shape.Shape, declared.state.Stage.Stage}
use Rattle.sharc_code.specs.declared.state.Stage.TheVariants.{Clears, FreeClears, WithdrawsFrom}
use Rattle.sharc_code.specs.Layout.{granules, granule_at, granule_of, shadow_word}
use Rattle.sharc_code.specs.{Machine.{Machine, instr_at, place, ref, data_granule, row_of}, Path.may_go}
use Rattle.sharc_code.specs.{Runs.{Turn, Global, put, at, after_turn, result_of}, Whole.{one_thread, bounds}}

-- ---- turns on shadow words
pub data Touch : Type 0 where
  Untouched : Touch
  -- a check of this kind, which was passed or refused
  CheckOf : (kind : Kind) (granule : ℕ) (passed : Bool) → Touch
  -- the Swap to `cleared`, of a Clear or a Free
  ClearOf : (granule : ℕ) → Touch
  -- the Cas of an Exit, where it found what it had loaded
  WithdrawOf : (granule : ℕ) → Touch

abbrev pub cleared_by : Shape → ℕ → Stage → Touch
cleared_by s h (Clears done all seen) = ClearOf (granule_at s (data_granule h done))
cleared_by s h _ = Untouched

abbrev pub freed_by : Shape → ℕ → Stage → Touch
freed_by s h (FreeClears done elements seen) = ClearOf (granule_at s (data_granule h done))
freed_by s h _ = Untouched

abbrev pub withdrawn_by : Shape → Machine → ℕ → Stage → Touch
withdrawn_by s m found (WithdrawsFrom row seen) =
    if found == seen then WithdrawOf (granule_at s (row_of m row)) else Untouched
withdrawn_by s m found _ = Untouched

-- what the turn of this instruction is, which found this and led from the first machine to the second; a check that is
-- refused stops the thread
abbrev pub touch_of : Shape → Instr → Machine → ℕ → Machine → Touch
touch_of s (ChkRead cell site) m found m' = CheckOf Read (granule_at s (granule_of (place m cell))) (may_go m'.at.state)
touch_of s (ChkWrite cell site) m found m' =
    CheckOf Write (granule_at s (granule_of (place m cell))) (may_go m'.at.state)
touch_of s (Clear r cells) m found m' = cleared_by s (ref m r) m.own.stage
touch_of s (Free r layout site) m found m' = freed_by s (ref m r) m.own.stage
touch_of s Exit m found m' = withdrawn_by s m found m.own.stage
touch_of s _ m found m' = Untouched

-- ---- what they come to
-- by thread, since the last Clear of a granule and the thread's last withdrawal: it made a check, one of kind Write,
-- passed one, one of kind Write
pub record Marks : Type 0 where
  pub made : ℕ → Bool
  pub writes : ℕ → Bool
  pub passed : ℕ → Bool
  pub passed_write : ℕ → Bool

abbrev pub no_marks : Marks
no_marks = record { made = λ k. false; writes = λ k. false; passed = λ k. false; passed_write = λ k. false }

abbrev pub with_check : Kind → Bool → ℕ → Marks → Marks
with_check Read ok t f = record f { made = put f.made t true; passed = put f.passed t (ok || f.passed t) }
with_check Write ok t f = record {
  made = put f.made t true;
  writes = put f.writes t true;
  passed = put f.passed t (ok || f.passed t);
  passed_write = put f.passed_write t (ok || f.passed_write t);
}

abbrev pub without_thread : ℕ → Marks → Marks
without_thread t f = record {
  made = put f.made t false;
  writes = put f.writes t false;
  passed = put f.passed t false;
  passed_write = put f.passed_write t false;
}

abbrev pub marks_by : Touch → ℕ → (ℕ → Marks) → ℕ → Marks
marks_by Untouched t f = f
marks_by (CheckOf kind p ok) t f = put f p (with_check kind ok t (f p))
marks_by (ClearOf p) t f = put f p no_marks
marks_by (WithdrawOf p) t f = put f p (without_thread t (f p))

-- behind one turn of a run, and behind all
abbrev pub marks_now : Code → Shape → Global Machine → Turn → (ℕ → Marks) → ℕ → Marks
marks_now code s g tr f =
    marks_by (touch_of s (instr_at code (g.threads tr.thread).at.pc) (g.threads tr.thread) (result_of tr.event)
    ((after_turn bounds (one_thread code s) g tr).threads tr.thread)) tr.thread f

abbrev pub marks_after : Code → Shape → Global Machine → List Turn → ℕ → Marks
marks_after code s from [] = λ p. no_marks
marks_after code s from (tr ∷ earlier) =
    marks_now code s (at bounds (one_thread code s) from earlier) tr (marks_after code s from earlier)

-- ---- what stands of one shadow word
pub record BitsStand (word : ℕ) (marks : Marks) : Type 0 where
  -- where a thread has passed a check its bit stands, and for one of kind Write the written bit
  pub passed : (k : ℕ) → marks.passed k ≡ true → stands word k ≡ true
  pub written : (k : ℕ) → marks.passed_write k ≡ true → is_written word ≡ true
  -- where the bit of a thread stands it has made a check
  pub made : (k : ℕ) → stands word k ≡ true → marks.made k ≡ true
  -- where the written bit stands, a thread whose bit stands has made one of kind Write
  pub wrote : is_written word ≡ true → (k : ℕ) × (stands word k ≡ true) × (marks.writes k ≡ true)

abbrev pub AllBitsStand : Shape → List ℕ → (ℕ → Marks) → Type 0
AllBitsStand s words marks = (p : ℕ) → p < granules s → BitsStand (slice_index words (shadow_word s p)) (marks p)
