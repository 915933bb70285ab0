-- The variables that stand: where their registers are, and that the type of each names those alone that stand before
-- it.
use Rattle.std.specs.{Prelude.{◌≡◌, ℕ, ◌<◌, ◌≤◌, true, List, [], ◌∷◌, ◌++◌, Some, slice_get}, List.AllByRecursion}
use Rattle.sharc_names.specs.Kinds.{Kind}
use Rattle.sharc_mode.specs.{Moded.Assignment, Rows.{written, declared_row, modes_of}, Sharings.Sharing}
use Rattle.sharc_flat.specs.{declared.slot.Slot.Slot, Scope.{Context, slot_kind, ref_count}, Suits.PathStands}
use Rattle.sharc_invariant.specs.{Types.Mentions, Labels.{Empty, Refers, EntryMentions}}
use Rattle.sharc_accepted_laws.specs.Static.{register, static_of, variable_type, pointers, variable_entry}

-- the variables of the lock paths of these modes are among these
abbrev pub AllStand : Assignment → List Slot → List Sharing → Type 0
AllStand m scope modes = AllByRecursion (PathStands m.typed scope) modes

-- those of the type of the variable that this token declares
abbrev pub DeclaredStands : Assignment → List Slot → ℕ → Type 0
DeclaredStands m scope x = AllStand m scope (modes_of m (declared_row m.typed written x))

-- each variable's are among those that stand before it
abbrev pub IsClosedScope : Assignment → List Slot → Type 0
IsClosedScope m scope = (before after : List Slot) (s : Slot) → scope ≡ before ++ s ∷ after
    → DeclaredStands m before s.token

-- with more variables
abbrev pub with_more : Context → List Slot → Context
with_more c more = record c { scope = c.scope ++ more }

-- ---- registers
-- the register of a pointer has what is known of that variable
abbrev pub HasRegister : Type 0
HasRegister = (c : Context) (x : ℕ) → slot_kind c.scope x ≡ Some true
    → (register c x < ref_count c.scope) × (slice_get (pointers c.scope) (register c x) ≡ Some x)
    × (variable_entry c (register c x) ≡ Refers (variable_type c x))

-- two variables have two registers
abbrev pub HasOneVariable : Type 0
HasOneVariable = (c : Context) (x y : ℕ) → slot_kind c.scope x ≡ Some true → slot_kind c.scope y ≡ Some true
    → register c x ≡ register c y → x ≡ y

-- behind the variables no register has one
abbrev pub OthersAreEmpty : Type 0
OthersAreEmpty = (c : Context) (r : ℕ) → ref_count c.scope ≤ r → variable_entry c r ≡ Empty

-- ---- what types name
-- a type names registers of variables that stand
abbrev pub NamesVariables : Type 0
NamesVariables = (c : Context) (kind : Kind) (modes : List Sharing) (r : ℕ) → AllStand c.program c.scope modes
    → Mentions (static_of c kind modes) r → r < ref_count c.scope

-- and that of a variable lower ones than its own
abbrev pub NamesLower : Type 0
NamesLower = (c : Context) (r q : ℕ) → IsClosedScope c.program c.scope → EntryMentions (variable_entry c r) q → q < r

-- ---- more and fewer variables
-- a type stays what it is where more variables stand
abbrev pub TypesStay : Type 0
TypesStay = (c : Context) (more : List Slot) (kind : Kind) (modes : List Sharing) → AllStand c.program c.scope modes
    → static_of (with_more c more) kind modes ≡ static_of c kind modes

-- and so do the registers
abbrev pub EntriesStay : Type 0
EntriesStay = (c : Context) (more : List Slot) (r : ℕ) → IsClosedScope c.program c.scope → r < ref_count c.scope
    → variable_entry (with_more c more) r ≡ variable_entry c r

-- what stands still stands with more
abbrev pub StillStand : Type 0
StillStand = (m : Assignment) (scope more : List Slot) (modes : List Sharing) → AllStand m scope modes
    → AllStand m (scope ++ more) modes

abbrev pub NoneIsClosed : Type 0
NoneIsClosed = (m : Assignment) → IsClosedScope m []

abbrev pub OneMoreIsClosed : Type 0
OneMoreIsClosed = (m : Assignment) (scope : List Slot) (s : Slot) → IsClosedScope m scope
    → DeclaredStands m scope s.token → IsClosedScope m (scope ++ s ∷ [])

abbrev pub FewerAreClosed : Type 0
FewerAreClosed = (m : Assignment) (scope more : List Slot) → IsClosedScope m (scope ++ more) → IsClosedScope m scope

pub record ScopeLaws : Type 0 where
  pub has : HasRegister
  pub one : HasOneVariable
  pub others : OthersAreEmpty
  pub named : NamesVariables
  pub lower : NamesLower
  pub types : TypesStay
  pub entries : EntriesStay
  pub still : StillStand
  pub none : NoneIsClosed
  pub more : OneMoreIsClosed
  pub fewer : FewerAreClosed
