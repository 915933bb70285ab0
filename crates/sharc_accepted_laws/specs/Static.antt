-- The types of references at a place of the source, as the flat code there has them: which target, and by which
-- registers and cells its lock paths lead to mutexes.
use Rattle.std.specs.Prelude.{◌≡◌, ◌⊎◌, ℕ, ◌-◌, List, [], ◌∷◌, slice_get, Option, Some, None, if◌then◌else◌}
use Rattle.sharc_names.specs.{declared.fault.Named.Named, Kinds.{Kind, declared_kind}}
use Rattle.sharc_names.specs.declared.fault.Named.TheVariants as named
use Rattle.sharc_tree.specs.Tree.{Expression, Function}
use Rattle.sharc_ctype.specs.Resolved.{named_at, declaration_at, variable_kind, kind_at}
use Rattle.sharc_meaning.specs.Cells.{field_place_behind}
use Rattle.sharc_mode.specs.{Notes.base_of, Rows.{written, declared_row, modes_of, modes_at}}
use Rattle.sharc_mode.specs.Sharings.{Lock, Sharing, private, readonly, locked, racy, dynamic}
use Rattle.sharc_flat.specs.{Machine.first_cell, declared.slot.Slot.Slot, Scope.{Context, register_of, number_in}}
use Rattle.sharc_accepted_laws.specs.Shapes.{shape_of, number}
use Rattle.sharc_invariant.specs.{Types.{Lock as TypeLock, StaticType}, Types.Lock.{Global, Through}}
use Rattle.sharc_invariant.specs.Labels.{Entry, Empty, Refers}

-- ---- locks
-- the register of a variable that stands
abbrev pub register : Context → ℕ → ℕ
register c x = number_in (register_of c.scope x)

-- Of a path by what its first name names: the first cell of a global, counted from granule 1 on, or the mutex of what a
-- variable refers to. No other path stands in the type of an expression.
abbrev pub lock_named : Context → Named → Option (List ℕ) → TypeLock
lock_named c (named.Global g) m = Global (first_cell c.globals g - 2)
lock_named c (named.Variable x) (Some m) = Through (register c x) (field_place_behind c.program.typed x m)
lock_named c _ m = Global 0

abbrev pub lock_at : Context → Lock → TypeLock
lock_at c l = lock_named c (named_at c.program.typed l.first) l.second

-- those of the targets that are locked, from the first one on
abbrev pub locks_at : Context → List Sharing → List TypeLock
locks_at c [] = []
locks_at c (private ∷ below) = locks_at c below
locks_at c (readonly ∷ below) = locks_at c below
locks_at c (locked l ∷ below) = lock_at c l ∷ locks_at c below
locks_at c (racy ∷ below) = locks_at c below
locks_at c (dynamic ∷ below) = locks_at c below

-- ---- static types
-- of a pointer of this C type whose targets have these modes
abbrev pub static_of : Context → Kind → List Sharing → StaticType
static_of c kind modes = record { target = number c.program (shape_of (base_of kind) modes); locks = locks_at c modes }

-- of the variable that this token declares
abbrev pub variable_type : Context → ℕ → StaticType
variable_type c x = static_of c (variable_kind (declaration_at c.program.typed x))
    (modes_of c.program (declared_row c.program.typed written x))

-- of a function's result
abbrev pub result_type : Context → Function → StaticType
result_type c f =
    static_of c (declared_kind f.result) (modes_of c.program (declared_row c.program.typed written f.name.site.token))

-- what a register holds with a value: NULL, of which there are no modes, or a reference of this type
abbrev pub entry_by : Context → Kind → Option (List Sharing) → Entry
entry_by c kind None = Empty
entry_by c kind (Some modes) = Refers (static_of c kind modes)

abbrev pub entry_of : Context → Expression → Entry
entry_of c e = entry_by c (kind_at c.program.typed e) (modes_at c.program e)

-- ---- variables
-- the pointers that stand: the first has register 0, and so on
abbrev pub pointers : List Slot → List ℕ
pointers [] = []
pointers (x ∷ rest) = if x.is_pointer then x.token ∷ pointers rest else pointers rest

abbrev pub entry_named : Context → Option ℕ → Entry
entry_named c None = Empty
entry_named c (Some x) = Refers (variable_type c x)

-- what the register holds of the variables that stand
abbrev pub variable_entry : Context → ℕ → Entry
variable_entry c r = entry_named c (slice_get (pointers c.scope) r)

-- what goes to something of this type: NULL, or a reference of the same type
abbrev pub GoesTo : Entry → StaticType → Type 0
GoesTo e s = (e ≡ Empty) ⊎ (e ≡ Refers s)
