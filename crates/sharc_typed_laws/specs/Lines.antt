-- Typed flat code: what each operation asks of what is known before its line, and what the next line, and those to
-- which it leads, may then know.
use Rattle.std.specs.Prelude.{ℕ, ◌+◌, ◌≡◌, ◌≢◌, ◌<◌, ◌≤◌, ◌^◌, ◌⊎◌, Bool, true, false, length, slice_get, Option, Some}
use Rattle.std.specs.Prelude.{None}
use Rattle.sharc_code.specs.{declared.code.Code.Code, declared.instr.Cell.Cell, declared.instr.Instr.Instr}
use Rattle.sharc_code.specs.declared.instr.Width.{Width}
use Rattle.sharc_flat.specs.{declared.op.Op.Op, declared.op.Spot.Spot, Machine.{Flat, function_of as flat_function}}
use Rattle.sharc_flat.specs.declared.op.Op.TheVariants as op
use Rattle.sharc_compile.specs.Generated.{instr_of}
use Rattle.sharc_guard.specs.Guard.{body}
use Rattle.sharc_invariant.specs.Types.{Targets, AreTargets, StaticType, Field, FieldType, FieldLock, FieldMode}
use Rattle.sharc_invariant.specs.Types.{Content, cells_of, field_of_cell, is_pointer, Mentions}
use Rattle.sharc_invariant.specs.Types.FieldMode.{Private, Readonly, Racy, Dynamic, Under, Behind}
use Rattle.sharc_invariant.specs.Types.Content.{Integer}
use Rattle.sharc_invariant.specs.Labels.{Empty, Refers, Anything, Within, Closed, Loaded, Pass, IsIn, Label, Labels}
use Rattle.sharc_invariant.specs.Labels.{Less, LessEntry, EntryMentions, IsScoped, set_number, fill, empty, gated}
use Rattle.sharc_invariant.specs.Labels.{knows, IsFree}
use Rattle.sharc_invariant.specs.Typed.{IsRef, IsInt, IsVacant, HasField, HasCell, IsMutex, IsMutexOf, IsPlace, Covers}
use Rattle.sharc_invariant.specs.Typed.{IsOwn, PointsTo, PointsToMutex, IsSibling, IsMode, Fits, Recasts, IsLayout}
use Rattle.sharc_invariant.specs.Typed.{AreGlobals, IsPlain, MayStart, moved_copy, ints_in, refs_in, entry_label}
use Rattle.sharc_typed_laws.specs.{Steps.Steps, Inside.{FlatLabels, lock_of, behind, outside, cleared, tested}}

-- ---- accesses
-- a check that is remembered is one of this cell, and the cell is an integer's
pub record IsRemembered (x : Targets) (l : Label) (write : Bool) (c : Cell) (holds : Content) : Type 0 where
  pub pass : Pass
  pub among : IsIn pass l.passed
  pub covers : Covers pass.write write
  pub place : IsPlace x l c pass.base pass.cell
  pub integer : is_pointer holds ≡ false

-- the check of an access under a lock looks at the mutex of the cell's mode
pub record IsLockedBy (x : Targets) (code : Code) (l : Label) (lock : FieldLock) (c m : Cell) : Type 0 where
  pub field : Field
  pub has : HasField x code l m field
  pub mutex : IsMutex field
  pub is : IsMutexOf code l lock c m

-- the pointer to the mutex of the cell's mode was loaded
pub record IsGuardedBy (x : Targets) (code : Code) (l : Label) (field pointer : ℕ) (c : Cell) : Type 0 where
  pub cell : Cell
  pub of : Field
  pub loaded : l.gate ≡ Loaded cell
  pub has : HasCell x code l cell of
  pub points : PointsToMutex x of
  pub sibling : IsSibling l field pointer c cell

-- What an access in a mode asks for before its check, where the check is dropped or not. That of a locked cell looks at
-- this mutex.
abbrev pub MayPass : Targets → Code → Labels → Bool → Label → Bool → Cell
    → (mutex : Cell) → Content → FieldMode → Type 0
MayPass x code ls dropped l write c mutex holds Private = (l.gate ≡ Closed) × IsOwn ls l c
MayPass x code ls dropped l write c mutex holds Readonly = (l.gate ≡ Closed) × (write ≡ false)
MayPass x code ls dropped l write c mutex holds Racy = l.gate ≡ Closed
MayPass x code ls true l write c mutex holds Dynamic = (l.gate ≡ Closed) × IsRemembered x l write c holds
MayPass x code ls false l write c mutex holds Dynamic = l.gate ≡ Closed
MayPass x code ls dropped l write c mutex holds (Under lock) = (l.gate ≡ Closed) × IsLockedBy x code l lock c mutex
MayPass x code ls dropped l write c mutex holds (Behind field pointer) = IsGuardedBy x code l field pointer c

-- an access to a cell, of this field
pub record PassesCheck (x : Targets) (code : Code) (ls : Labels) (dropped : Bool) (l : Label) (write : Bool) (c : Cell)
    (spot : Spot) (f : Field) : Type 0 where
  pub cell : HasCell x code l c f
  pub mode : IsMode code l c f.mode spot.mode
  pub may : MayPass x code ls dropped l write c (lock_of spot spot.mode) f.holds f.mode

pub record Loads (x : Targets) (code : Code) (ls : Labels) (dropped : Bool) (l k : Label) (i : ℕ) (c : Cell)
    (spot : Spot) : Type 0 where
  pub field : Field
  pub width : Width
  pub register : IsInt code l i
  pub access : PassesCheck x code ls dropped l false c spot field
  pub holds : field.holds ≡ Integer width
  pub next : Less (set_number (behind x dropped l false c spot) i (Within width)) k

pub record Stores (x : Targets) (code : Code) (ls : Labels) (dropped : Bool) (l k : Label) (i : ℕ) (c : Cell)
    (spot : Spot) : Type 0 where
  pub field : Field
  pub width : Width
  pub access : PassesCheck x code ls dropped l true c spot field
  pub holds : field.holds ≡ Integer width
  pub fits : Fits (l.ints i) width
  pub next : Less (gated (behind x dropped l true c spot) Closed) k

-- the reference of a cell comes to a register, and stays in the cell or not
pub record LoadsReference (x : Targets) (code : Code) (ls : Labels) (write : Bool) (l k : Label) (r : ℕ) (c : Cell)
    (spot : Spot) : Type 0 where
  pub field : Field
  pub type : StaticType
  pub register : IsVacant code l r
  pub access : PassesCheck x code ls false l write c spot field
  pub points : PointsTo l c field type
  pub other : Mentions type r → ⊥
  pub next : Less (fill (behind x false l write c spot) r (Refers type) r false) k

-- a reference goes to a cell, which has one of this type
pub record StoresReference (x : Targets) (code : Code) (ls : Labels) (type : StaticType) (l k : Label) (r : ℕ)
    (c : Cell) (spot : Spot) : Type 0 where
  pub field : Field
  pub register : IsRef code l r
  pub access : PassesCheck x code ls false l true c spot field
  pub points : PointsTo l c field type
  pub value : LessEntry l r (l.env r) (Refers type)
  pub free : IsFree l r
  pub other : Mentions type r → ⊥
  pub paths : (q : ℕ) → Mentions type q → l.env q ≢ Empty
  pub next : Less (empty (fill (empty (behind x false l true c spot) r) r (Refers type) r false) r) k

-- the pointer to the mutex of the next access is read
pub record LoadsGuard (x : Targets) (code : Code) (l k : Label) (c : Cell) : Type 0 where
  pub field : Field
  pub to : FieldType
  pub closed : l.gate ≡ Closed
  pub cell : HasCell x code l c field
  pub mode : field.mode ≡ Readonly
  pub holds : field.holds ≡ Content.Pointer to
  pub next : Less (gated l (Loaded c)) k

-- ---- references
abbrev pub moved : Label → ℕ → ℕ → Label
moved l to from = fill (empty l from) to (l.env from) (moved_copy l to from) (l.known from)

-- a register gives its reference up, and gets that of another one
pub record Settles (code : Code) (l k : Label) (to from : ℕ) : Type 0 where
  pub closed : l.gate ≡ Closed
  pub target : IsRef code l to
  pub target_free : IsFree l to
  pub source : IsRef code l from
  pub source_free : IsFree l from
  pub plain : EntryMentions (l.env from) from → ⊥
  pub apart : to ≢ from
  pub next : Less (moved (empty l to) to from) k

-- a cell of an object of the target is a pointer where it is one of an object that is made at this token
abbrev pub PointersMadeAt : Targets → ℕ → ℕ → Type 0
PointersMadeAt x token target = (i : ℕ) → is_pointer (field_of_cell x target i).holds ≡ x.is_made_pointer token i

-- a new object
pub record Makes (x : Targets) (code : Code) (l k : Label) (r cells : ℕ) (spot : Spot) : Type 0 where
  pub type : StaticType
  pub closed : l.gate ≡ Closed
  pub register : IsVacant code l r
  pub some : type.target ≢ 0
  pub row : type.target < length x.rows
  pub size : cells ≡ cells_of x type.target
  pub few : 1 ≤ cells
  pub pointers : PointersMadeAt x spot.site.token type.target
  pub other : Mentions type r → ⊥
  pub next : Less (fill l r (Refers type) r true) k

pub record Gives (x : Targets) (code : Code) (l k : Label) (r cells : ℕ) : Type 0 where
  pub before : StaticType
  pub given : StaticType
  pub closed : l.gate ≡ Closed
  pub register : IsRef code l r
  pub known : l.known r ≡ true
  pub free : IsFree l r
  pub is : l.env r ≡ Refers before
  pub size : cells ≡ cells_of x before.target
  pub recasts : Recasts x l r before given
  pub other : Mentions given r → ⊥
  pub next : Less (fill (empty (cleared l r) r) r (Refers given) r true) k

pub record Frees (x : Targets) (code : Code) (l k : Label) (r layout : ℕ) : Type 0 where
  pub type : StaticType
  pub closed : l.gate ≡ Closed
  pub register : IsRef code l r
  pub known : l.known r ≡ true
  pub free : IsFree l r
  pub is : l.env r ≡ Refers type
  pub laid : IsLayout x code layout type.target
  pub next : Less (empty (tested l r) r) k

-- ---- one line
-- the operation becomes one statement, which is typed
abbrev pub StepsBy : Targets → Code → Labels → Label → Label → Option Instr → Type 0
StepsBy x code ls l k None = ⊥
StepsBy x code ls l k (Some i) = Steps x code ls l k (instr_of code.functions.items i)

-- a line of so many lines, or their end, where no more is known
abbrev pub To : Labels → ℕ → ℕ → Label → Type 0
To ls lines n l = (n ≤ lines) × Less l (ls.at n)

abbrev pub TypedLine : Targets → Code → Labels → ℕ → Bool → StaticType → ℕ → Label → Label → Op → Type 0
TypedLine x code ls lines dropped type n l k op.Enter = Less l k
TypedLine x code ls lines dropped type n l k op.BlockEnd = Less l k
TypedLine x code ls lines dropped type n l k (op.Skip over) = (l.gate ≡ Closed) × To ls lines (n + 1 + over) l
TypedLine x code ls lines dropped type n l k (op.SkipIfZero i over) =
    (l.gate ≡ Closed) × To ls lines (n + 1 + over) l × Less l k
TypedLine x code ls lines dropped type n l k (op.SkipIfNull r over) =
    (l.gate ≡ Closed) × (To ls lines (n + 1 + over) l ⊎ (IsFree l r × To ls lines (n + 1 + over) (empty l r)))
    × Less (knows l r) k
TypedLine x code ls lines dropped type n l k (op.Jump to) = (l.gate ≡ Closed) × To ls lines to l
TypedLine x code ls lines dropped type n l k (op.Settle to from) = Settles code l k to from
TypedLine x code ls lines dropped type n l k (op.Load i cell spot) = Loads x code ls dropped l k i cell spot
TypedLine x code ls lines dropped type n l k (op.Store i cell spot) = Stores x code ls dropped l k i cell spot
TypedLine x code ls lines dropped type n l k (op.LoadRef r cell spot) = LoadsReference x code ls false l k r cell spot
TypedLine x code ls lines dropped type n l k (op.TakeCell r cell spot) = LoadsReference x code ls true l k r cell spot
TypedLine x code ls lines dropped type n l k (op.StoreRef r cell spot) = StoresReference x code ls type l k r cell spot
TypedLine x code ls lines dropped type n l k (op.LoadGuard cell spot) = LoadsGuard x code l k cell
TypedLine x code ls lines dropped type n l k (op.New r count cells spot) = Makes x code l k r cells spot
TypedLine x code ls lines dropped type n l k (op.Give r cells spot) = Gives x code l k r cells
TypedLine x code ls lines dropped type n l k (op.Free r layout spot) = Frees x code l k r layout
-- the other operations are typed as their statements are
TypedLine x code ls lines dropped type n l k o = StepsBy x code ls l k (body (λ j. 0) n o)

-- ---- the whole
-- the functions of flat code with these labels: whose each line is, and how they begin
pub record HasTypedFunctions (code : Code) (fl : FlatLabels) (flat : Flat) : Type 0 where
  -- nothing is known where no line is, so no line leads there
  pub end : fl.lines.at (length flat.lines) ≡ outside
  pub owned : (n : ℕ) → n < length flat.lines → (f : ℕ) × ((fl.lines.at n).function ≡ Some f)
  pub scoped : (n : ℕ) → n < length flat.lines
      → IsScoped (ints_in code (fl.lines.at n).function) (refs_in code (fl.lines.at n).function) (fl.lines.at n)
  pub entries : (f : ℕ) → f < length flat.functions
      → To fl.lines (length flat.lines) (flat_function flat f).entry (entry_label fl.lines f)
  pub plain : (f : ℕ) → IsPlain (fl.lines.signature f)
  pub starts : (f : ℕ) → fl.lines.starts f ≡ true → MayStart code fl.lines f
  pub main : fl.lines.starts code.main ≡ true
  pub main_is : code.main < 2 ^ 64
  pub main_number : (fl.lines.signature code.main).takes_ints 0 ≡ Anything

-- flat code with these labels, of which this code is made
pub record IsTypedFlat (x : Targets) (code : Code) (dropped : ℕ → Bool) (fl : FlatLabels) (flat : Flat) : Type 0 where
  pub targets : AreTargets x
  pub globals : AreGlobals x code
  pub lines : (n : ℕ) (o : Op) → slice_get flat.lines n ≡ Some o → TypedLine x code fl.lines (length flat.lines)
      (dropped n) (fl.replaced n) n (fl.lines.at n) (fl.lines.at (n + 1)) o
  pub functions : HasTypedFunctions code fl flat
