-- Stretches of flat code, with what is said before each of their lines.
use Rattle.std.specs.Prelude.{ℕ, ◌+◌, ◌≡◌, ◌<◌, ◌≤◌, Bool, true, List, [], ◌∷◌, Some}
use Rattle.sharc_code.specs.{declared.code.Code.Code, declared.instr.Cell.Cell}
use Rattle.sharc_code.specs.declared.instr.Cell.TheVariants as cells
use Rattle.sharc_flat.specs.{declared.op.Op.Op, Framed.OpWrites}
use Rattle.sharc_flat_lemmas.specs.Pieces.{Levels, Piece}
use Rattle.sharc_guard.specs.Known.{is_straight, leads_to, Access, access, Know, know_next}
use Rattle.sharc_invariant.specs.Types.{Targets, StaticType}
use Rattle.sharc_invariant.specs.Labels.{Pass, IsIn, Label, Signature, Labels, Less, IsScoped}
use Rattle.sharc_invariant.specs.Typed.{ints_in, refs_in}
use Rattle.sharc_typed_laws.specs.{Inside.FlatLabels, Lines.TypedLine}
use Rattle.sharc_typed_laws.specs.Passes.{with_passes, with_all, remembered, RepeatsCheck, IsNumberOf}

-- ---- what is said before a line
-- What is known there, and what the cell refers to in which the line stores a reference. Numbers that are remembered
-- are told of the integer registers from the first one up to the second.
pub record Mark : Type 0 where
  pub label : Label
  pub replaced : StaticType
  pub from : ℕ
  pub until : ℕ

-- the code around: its tables, the signatures of its functions, with which of them a thread may begin, and how many
-- lines it has
pub record Setting : Type 0 where
  pub targets : Targets
  pub code : Code
  pub signature : ℕ → Signature
  pub starts : ℕ → Bool
  pub lines : ℕ

abbrev pub labels_by : Setting → (ℕ → Mark) → Labels
labels_by z table = record { at = λ n. (table n).label; signature = z.signature; starts = z.starts }

abbrev pub flat_labels : Setting → (ℕ → Mark) → FlatLabels
flat_labels z table = record { lines = labels_by z table; replaced = λ n. (table n).replaced }

-- the label says of which register each one is a copy, and the numbers in these registers, as far as that is remembered
pub record Tells (x : Targets) (k : Know) (s : Mark) : Type 0 where
  pub copies : (r v : ℕ) → k.copy r ≡ Some v → s.label.same r ≡ v
  pub numbers : (i n : ℕ) → s.from ≤ i → i < s.until → k.number i ≡ Some n → IsNumberOf x s.label n (s.label.ints i)

-- what is said at the second says no more than what is said at the first
pub record Fits (x : Targets) (s t : Mark) : Type 0 where
  pub less : Less s.label t.label
  pub tells : (k : Know) → Tells x k s → Tells x k t

-- ---- a line
-- it is typed whatever checks are remembered
abbrev pub IsTypedAt : Setting → (ℕ → Mark) → ℕ → Mark → Op → Type 0
IsTypedAt z table pc s o = (dropped : Bool) (passes : ℕ → List Pass)
    → (dropped ≡ true → RepeatsCheck z.targets s.label (passes pc) o)
    → ((t : ℕ) → leads_to pc o t ≡ true → passes t ≡ [])
    → ((p : Pass) → IsIn p (passes (pc + 1)) → IsIn p (remembered z.targets dropped s.label o (passes pc)))
    → TypedLine z.targets z.code (with_all (labels_by z table) passes) z.lines dropped s.replaced pc
    (with_passes s.label (passes pc)) (with_passes (table (pc + 1)).label (passes (pc + 1))) o

-- the number of the cell that is accessed is at hand, where it is found by an index
abbrev pub IsAtHand : Mark → Cell → Type 0
IsAtHand s (cells.Global g place) = Unit {0}
IsAtHand s (cells.GlobalAt g i) = (s.from ≤ i) × (i < s.until)
IsAtHand s (cells.Object r n) = Unit {0}
IsAtHand s (cells.ObjectAt r i) = (s.from ≤ i) × (i < s.until)

pub record IsLine (z : Setting) (f : ℕ) (table : ℕ → Mark) (pc : ℕ) (s : Mark) (o : Op) : Type 0 where
  pub owned : s.label.function ≡ Some f
  pub scoped : IsScoped (ints_in z.code (Some f)) (refs_in z.code (Some f)) s.label
  pub typed : IsTypedAt z table pc s o
  pub cells : (a : Access) → access o ≡ Some a → IsAtHand s a.cell
  pub tells : is_straight o ≡ true → (k : Know) → Tells z.targets k s → Tells z.targets (know_next o k) (table (pc + 1))

-- ---- lines one after the other
abbrev pub AreLines : Setting → ℕ → (ℕ → Mark) → ℕ → List Op → Type 0
AreLines z f = Levels (IsLine z f)

-- A stretch of function f: a piece of its code, with what is said before each of its lines.
abbrev pub Stretch : Setting → ℕ → ((ℕ → Mark) → Type 0) → Mark → ℕ → List Op → Mark → Type 0
Stretch z f = Piece (Fits z.targets) (λ q. q ≤ z.lines) (IsLine z f)

-- what the operations write is in the frame
abbrev pub AreWithin : ℕ → ℕ → List Op → Type 0
AreWithin ints refs [] = Unit {0}
AreWithin ints refs (o ∷ os) = OpWrites ints refs o × AreWithin ints refs os

-- wherever it is, such code leads from what is said before it to what is said after it
pub record Leads (z : Setting) (f : ℕ) (known : (ℕ → Mark) → Type 0) (s : Mark) (os : List Op) (e : Mark) : Type 0 where
  pub stretch : (pc : ℕ) → Stretch z f known s pc os e
  pub scoped : IsScoped (ints_in z.code (Some f)) (refs_in z.code (Some f)) e.label

-- in a frame that is large enough
abbrev pub LeadsWithin : Setting → ℕ → ((ℕ → Mark) → Type 0) → Mark → List Op → Mark → Type 0
LeadsWithin z f known s os e = AreWithin (ints_in z.code (Some f)) (refs_in z.code (Some f)) os
    → IsScoped (ints_in z.code (Some f)) (refs_in z.code (Some f)) s.label → Leads z f known s os e

-- ---- what is known of the code around
-- a line to which the code may lead, where no more than this is said
pub record Way : Type 0 where
  pub line : ℕ
  pub mark : Mark

abbrev pub AreOpen : Setting → List Way → (ℕ → Mark) → Type 0
AreOpen z [] table = Unit {0}
AreOpen z (way ∷ ways) table = ((way.line ≤ z.lines) × Fits z.targets way.mark (table way.line)) × AreOpen z ways table

-- in code that may lead to these lines
abbrev pub LeadsAmong : Setting → ℕ → List Way → Mark → List Op → Mark → Type 0
LeadsAmong z f ways s os e = LeadsWithin z f (AreOpen z ways) s os e

-- at this line
pub record LeadsAt (z : Setting) (f : ℕ) (ways : List Way) (pc : ℕ) (s : Mark) (os : List Op) (e : Mark) : Type 0 where
  pub stretch : Stretch z f (AreOpen z ways) s pc os e
  pub scoped : IsScoped (ints_in z.code (Some f)) (refs_in z.code (Some f)) e.label

abbrev pub LeadsFrom : Setting → ℕ → List Way → ℕ → Mark → List Op → Mark → Type 0
LeadsFrom z f ways pc s os e = AreWithin (ints_in z.code (Some f)) (refs_in z.code (Some f)) os
    → IsScoped (ints_in z.code (Some f)) (refs_in z.code (Some f)) s.label → LeadsAt z f ways pc s os e
