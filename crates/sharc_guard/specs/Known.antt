-- What is known of checks at each line, and which checks are dropped by it: within a straight piece, which reference
-- registers are copies of a variable's, which integer registers hold a number of the source, and which simple places
-- were checked.
use Rattle.std.specs.Prelude.{ℕ, zero, suc, ℤ, pos, negsuc, ◌+◌, ◌*◌, ◌^◌, ◌==◌, Bool, true, false, not, ◌&&◌, ◌||◌}
use Rattle.std.specs.Prelude.{List, [], ◌∷◌, length, Option, Some, None, nat_lt, slice_get, if◌then◌else◌}
use Rattle.sharc_heap.specs.{declared.shadow_word.Kind.Kind, declared.shadow_word.Kind.TheVariants.{Read, Write}}
use Rattle.sharc_code.specs.{declared.code.Function.Function, declared.code.PlaceMode.PlaceMode}
use Rattle.sharc_code.specs.{declared.code.PlaceMode.TheVariants.Dynamic, declared.instr.Cell.Cell}
use Rattle.sharc_code.specs.declared.instr.Cell.TheVariants as cells
use Rattle.sharc_flat.specs.{declared.op.Spot.Spot, declared.op.Op.Op, Machine.Flat}
use Rattle.sharc_flat.specs.declared.op.Op.TheVariants as op

-- ---- straight pieces
-- A jump, a call, a return, the end of a block, a cast, a free, and what starts or waits for threads or takes or gives
-- back a mutex end a piece.
abbrev pub is_straight : Op → Bool
is_straight (op.Skip n) = false
is_straight (op.SkipIfZero i n) = false
is_straight (op.SkipIfNull r n) = false
is_straight (op.Jump to) = false
is_straight (op.Call f ints refs spot) = false
is_straight (op.Return spot) = false
is_straight op.BlockEnd = false
is_straight (op.TakeCell r cell spot) = false
is_straight (op.TakeLocal r x spot) = false
is_straight (op.Give r cells spot) = false
is_straight (op.Free r layout spot) = false
is_straight (op.Lock cell spot) = false
is_straight (op.Unlock r cell spot) = false
is_straight (op.CondEnter cell spot) = false
is_straight (op.CondWait cell spot) = false
is_straight (op.Spawn i f from spot) = false
is_straight (op.Join i spot) = false
is_straight _ = true

-- the line to which an operation leads, other than the next one
abbrev pub leads_to : ℕ → Op → ℕ → Bool
leads_to pc (op.Skip n) to = to == pc + 1 + n
leads_to pc (op.SkipIfZero i n) to = to == pc + 1 + n
leads_to pc (op.SkipIfNull r n) to = to == pc + 1 + n
leads_to pc (op.Jump target) to = to == target
leads_to pc _ to = false

abbrev pub line_leads : ℕ → Option Op → ℕ → Bool
line_leads pc None to = false
line_leads pc (Some o) to = leads_to pc o to

-- one of the first lines leads there
abbrev pub is_led_to : List Op → ℕ → ℕ → Bool
is_led_to lines zero to = false
is_led_to lines (suc n) to = is_led_to lines n to || line_leads n (slice_get lines n) to

abbrev pub is_entry : List Function → ℕ → Bool
is_entry [] to = false
is_entry (f ∷ rest) to = to == f.entry || is_entry rest to

-- a jump leads there, or a function begins
abbrev pub is_target : Flat → ℕ → Bool
is_target flat to = is_led_to flat.lines (length flat.lines) to || is_entry flat.functions to

-- ---- registers
-- what a straight operation writes
abbrev pub writes_ref : Op → ℕ → Bool
writes_ref (op.Null r) k = k == r
writes_ref (op.Local r x) k = k == r
writes_ref (op.MoveReference r from) k = k == r || k == from
writes_ref (op.Pop r) k = k == r
writes_ref (op.Settle x from) k = k == x || k == from
writes_ref (op.LoadRef r cell spot) k = k == r
writes_ref (op.StoreRef r cell spot) k = k == r
writes_ref (op.New r count cells spot) k = k == r
writes_ref _ k = false

abbrev pub writes_int : Op → ℕ → Bool
writes_int (op.Constant i v) k = k == i
writes_int (op.Move i from) k = k == i
writes_int (op.Compute width o i a b spot) k = k == i
writes_int (op.Negate width i a spot) k = k == i
writes_int (op.Complement i a) k = k == i
writes_int (op.IsFalse i a) k = k == i
writes_int (op.SameReference i a b) k = k == i
writes_int (op.Bounds i r cells field spot) k = k == i
writes_int (op.GlobalBounds i elements cells field spot) k = k == i
writes_int (op.Load i cell spot) k = k == i
writes_int _ k = false

-- ---- simple places
-- a cell of what the reference register of a variable refers to, or of a global, by its number
pub data SimplePlace : Type 0 where
  in_variable : ℕ → ℕ → SimplePlace
  in_global : ℕ → ℕ → SimplePlace

abbrev pub same_place : SimplePlace → SimplePlace → Bool
same_place (in_variable x n) (in_variable y k) = x == y && n == k
same_place (in_global g n) (in_global h k) = g == h && n == k
same_place _ _ = false

-- the operation assigns the variable through which the place is reached
abbrev pub assigns : Op → SimplePlace → Bool
assigns o (in_variable x n) = writes_ref o x
assigns o (in_global g n) = false

-- a check of the first kind counts for one of the second
abbrev pub counts : Kind → Kind → Bool
counts Write kind = true
counts Read Read = true
counts Read Write = false

-- an access of a cell, by its kind
pub record Access : Type 0 where
  pub kind : Kind
  pub cell : Cell
  pub spot : Spot

abbrev pub access : Op → Option Access
access (op.Load i cell spot) = Some record { kind = Read; cell = cell; spot = spot }
access (op.Store i cell spot) = Some record { kind = Write; cell = cell; spot = spot }
access (op.LoadRef r cell spot) = Some record { kind = Read; cell = cell; spot = spot }
access (op.StoreRef r cell spot) = Some record { kind = Write; cell = cell; spot = spot }
access _ = None

abbrev pub is_dynamic : PlaceMode → Bool
is_dynamic Dynamic = true
is_dynamic _ = false

-- its check is one for others of the same place
abbrev pub tells : Spot → Bool
tells spot = is_dynamic spot.mode && spot.is_simple

-- ---- what is known
-- of which variable a reference register is a copy, the number in an integer register, and the places that were checked
pub record Know : Type 0 where
  pub copy : ℕ → Option ℕ
  pub number : ℕ → Option ℕ
  pub passed : Kind → SimplePlace → Bool

abbrev pub nothing : Know
nothing = record { copy = λ r. None; number = λ i. None; passed = λ kind place. false }

-- no object has more elements
abbrev pub few : ℕ → Option ℕ
few n = if nat_lt n (2 ^ 32) then Some n else None

abbrev pub of_constant : ℤ → Option ℕ
of_constant (pos n) = few n
of_constant (negsuc n) = None

abbrev pub element : ℕ → ℕ → ℕ → Option ℕ
element cells field n = if nat_lt n (2 ^ 32) then Some (n * cells + field) else None

abbrev pub with_element : ℕ → ℕ → Option ℕ → Option ℕ
with_element cells field None = None
with_element cells field (Some n) = element cells field n

-- the number that an operation writes, by the one that was there
abbrev pub number_given : Op → Option ℕ → Option ℕ
number_given (op.Constant i v) old = of_constant v
number_given (op.Bounds i r cells field spot) old = with_element cells field old
number_given (op.GlobalBounds i elements cells field spot) old = with_element cells field old
number_given _ old = None

-- the variable whose copy it makes
abbrev pub copy_given : Op → Option ℕ
copy_given (op.Local r x) = if r == x then None else Some x
copy_given _ = None

abbrev pub unless_written : Op → Option ℕ → Option ℕ
unless_written o None = None
unless_written o (Some x) = if writes_ref o x then None else Some x

abbrev pub variable_place : Option ℕ → Option ℕ → Option SimplePlace
variable_place (Some x) (Some n) = Some (in_variable x n)
variable_place (Some x) None = None
variable_place None n = None

abbrev pub global_place : ℕ → Option ℕ → Option SimplePlace
global_place g (Some n) = Some (in_global g n)
global_place g None = None

abbrev pub place_of : Know → Cell → Option SimplePlace
place_of k (cells.Global g n) = Some (in_global g n)
place_of k (cells.GlobalAt g i) = global_place g (k.number i)
place_of k (cells.Object r n) = variable_place (k.copy r) (Some n)
place_of k (cells.ObjectAt r i) = variable_place (k.copy r) (k.number i)

abbrev pub is_at : Option SimplePlace → SimplePlace → Bool
is_at None place = false
is_at (Some at) place = same_place place at

-- the check of an access counts for this one
abbrev pub passes_by : Option Access → Know → Kind → SimplePlace → Bool
passes_by None k kind place = false
passes_by (Some a) k kind place = tells a.spot && (counts a.kind kind && is_at (place_of k a.cell) place)

-- after an operation of a straight piece
abbrev pub know_next : Op → Know → Know
know_next o k = record {
  copy = λ r. if writes_ref o r then copy_given o else unless_written o (k.copy r);
  number = λ i. if writes_int o i then number_given o (k.number i) else k.number i;
  passed = λ kind place. (k.passed kind place || passes_by (access o) k kind place) && not (assigns o place);
}

abbrev pub know_after : Option Op → Know → Know
know_after None k = nothing
know_after (Some o) k = if is_straight o then know_next o k else nothing

-- before a line
abbrev pub known : Flat → ℕ → Know
known flat zero = nothing
known flat (suc n) = if is_target flat (suc n) then nothing else know_after (slice_get flat.lines n) (known flat n)

-- ---- the checks that are dropped
abbrev pub has_passed : Know → Kind → Option SimplePlace → Bool
has_passed k kind None = false
has_passed k kind (Some place) = k.passed kind place

abbrev pub drops : Know → Op → Bool
drops k (op.Load i cell spot) = tells spot && has_passed k Read (place_of k cell)
drops k (op.Store i cell spot) = tells spot && has_passed k Write (place_of k cell)
drops k _ = false

abbrev pub drops_at : Know → Option Op → Bool
drops_at k None = false
drops_at k (Some o) = drops k o

abbrev pub dropped : Flat → ℕ → Bool
dropped flat n = drops_at (known flat n) (slice_get flat.lines n)
