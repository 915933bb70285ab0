-- Which accesses repeat a check of their straight piece.
use Rattle.std.specs.Prelude.{◌≡◌, ◌≢◌, ℕ, pos, ◌+◌, ◌*◌, ◌^◌, ◌<◌, ◌≤◌, ◌↔◌, Bool, true, false, Option, Some, None}
use Rattle.std.specs.Prelude.{slice_get}
use Rattle.sharc_heap.specs.declared.shadow_word.Kind.{Kind}
use Rattle.sharc_code.specs.{declared.code.PlaceMode.TheVariants.Dynamic, declared.instr.Cell.Cell}
use Rattle.sharc_code.specs.declared.instr.Cell.TheVariants as cells
use Rattle.sharc_flat.specs.{declared.op.Spot.Spot, declared.op.Op.Op, Machine.Flat}
use Rattle.sharc_flat.specs.declared.op.Op.TheVariants as op
use Rattle.sharc_guard.specs.Known.{is_straight, is_target, writes_ref, writes_int, SimplePlace, in_variable, in_global}
use Rattle.sharc_guard.specs.Known.{assigns, counts, Access, access, dropped}

abbrev pub IsStraight : Option Op → Type 0
IsStraight None = ⊥
IsStraight (Some o) = is_straight o ≡ true

abbrev pub Keeps : (Op → Bool) → Option Op → Type 0
Keeps changes None = ⊥
Keeps changes (Some o) = changes o ≡ false

module _ (flat : Flat) where
  abbrev pub IsLine : ℕ → Op → Type 0
  IsLine n o = slice_get flat.lines n ≡ Some o

  -- the lines from the first to the second lie in one straight piece
  pub record IsPiece (m n : ℕ) : Type 0 where
    pub straight : (j : ℕ) → m ≤ j → j < n → IsStraight (slice_get flat.lines j)
    pub no_target : (j : ℕ) → m < j → j ≤ n → is_target flat j ≡ false

  -- the operations from the first line on that are before the second do not change this
  abbrev pub AllKeep : (Op → Bool) → ℕ → ℕ → Type 0
  AllKeep changes m n = (j : ℕ) → m ≤ j → j < n → Keeps changes (slice_get flat.lines j)

  -- at this line the register has the copy of a variable's reference that was made earlier in the piece
  pub record IsCopy (r x n : ℕ) : Type 0 where
    pub at : ℕ
    pub before : at < n
    pub copies : IsLine at (op.Local r x)
    pub other : r ≢ x
    pub piece : IsPiece at n
    pub register : AllKeep (λ o. writes_ref o r) (at + 1) n
    pub variable : AllKeep (λ o. writes_ref o x) at n

  -- at this line the register has a number of the source, or that of a field of the element of this number
  pub data IsNumber : ℕ → ℕ → ℕ → Type 0 where
    constant : (i v n at : ℕ) → at < n → IsLine at (op.Constant i (pos v)) → v < 2 ^ 32 → IsPiece at n
        → AllKeep (λ o. writes_int o i) (at + 1) n → IsNumber i v n
    of_object : (i v n at u r cells field : ℕ) (spot : Spot) → at < n → IsLine at (op.Bounds i r cells field spot)
        → IsNumber i u at → u < 2 ^ 32 → v ≡ u * cells + field
        → IsPiece at n → AllKeep (λ o. writes_int o i) (at + 1) n → IsNumber i v n
    of_global : (i v n at u elements cells field : ℕ) (spot : Spot) → at < n
        → IsLine at (op.GlobalBounds i elements cells field spot) → IsNumber i u at → u < 2 ^ 32 → v ≡ u * cells + field
        → IsPiece at n → AllKeep (λ o. writes_int o i) (at + 1) n → IsNumber i v n

  -- the place that a cell names at a line
  abbrev pub IsPlaceAt : Cell → SimplePlace → ℕ → Type 0
  IsPlaceAt (cells.Global g n) place line = place ≡ in_global g n
  IsPlaceAt (cells.GlobalAt g i) place line = (n : ℕ) × IsNumber i n line × (place ≡ in_global g n)
  IsPlaceAt (cells.Object r n) place line = (x : ℕ) × IsCopy r x line × (place ≡ in_variable x n)
  IsPlaceAt (cells.ObjectAt r i) place line =
      (x : ℕ) × (n : ℕ) × IsCopy r x line × IsNumber i n line × (place ≡ in_variable x n)

  -- at this line there is an access of a simple place of mode dynamic
  pub record IsSimple (n : ℕ) (kind : Kind) (place : SimplePlace) : Type 0 where
    pub o : Op
    pub line : IsLine n o
    pub a : Access
    pub accesses : access o ≡ Some a
    pub kind_is : a.kind ≡ kind
    pub mode : a.spot.mode ≡ Dynamic
    pub simple : a.spot.is_simple ≡ true
    pub at : IsPlaceAt a.cell place n

  -- one of kind Write or of this kind comes earlier in the same piece, and the variable is not assigned between
  pub record IsChecked (n : ℕ) (kind : Kind) (place : SimplePlace) : Type 0 where
    pub at : ℕ
    pub before : at < n
    pub by : Kind
    pub checks : IsSimple at by place
    pub enough : counts by kind ≡ true
    pub piece : IsPiece at n
    pub variable : AllKeep (λ o. assigns o place) at n

-- an integer is read or written
abbrev pub IsOfInteger : Option Op → Type 0
IsOfInteger (Some (op.Load i cell spot)) = Unit {0}
IsOfInteger (Some (op.Store i cell spot)) = Unit {0}
IsOfInteger _ = ⊥

-- the access at this line repeats a check
pub record IsRepeated (flat : Flat) (n : ℕ) : Type 0 where
  pub integer : IsOfInteger (slice_get flat.lines n)
  pub kind : Kind
  pub place : SimplePlace
  pub simple : IsSimple flat n kind place
  pub checked : IsChecked flat n kind place

-- exactly the checks of these are dropped
abbrev pub DropsRepeated : Type 0
DropsRepeated = (flat : Flat) (n : ℕ) → (dropped flat n ≡ true) ↔ IsRepeated flat n

-- and the check that is repeated is not dropped itself
pub record ItsCheckStands (flat : Flat) (n : ℕ) (kind : Kind) (place : SimplePlace) : Type 0 where
  pub checked : IsChecked flat n kind place
  pub stands : dropped flat checked.at ≡ false

abbrev pub RepeatedCheckStands : Type 0
RepeatedCheckStands = (flat : Flat) (n : ℕ) (kind : Kind) (place : SimplePlace) → IsChecked flat n kind place
    → ItsCheckStands flat n kind place
