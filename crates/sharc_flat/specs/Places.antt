-- What an lvalue names in flat code, and the accesses of what it names. The base of a cell of an object is in the first
-- free reference register, and the number of a cell that is found by an index in the first free integer register. Where
-- the mutex of an element is read behind a pointer, the number of that pointer's cell is in the next one.
use Rattle.std.specs.Prelude.{ℕ, ◌+◌, Bool, true, false, ◌&&◌, ◌||◌, List, [], ◌∷◌, ◌++◌, Option, Some, None}
use Rattle.std.specs.Prelude.{if◌then◌else◌}
use Rattle.sharc_tree.specs.{declared.ctype.Base.Base, declared.token.Site.Site, declared.token.Span.Span}
use Rattle.sharc_tree.specs.declared.tree.expression.FieldOperator.TheVariants.{Dot, Arrow}
use Rattle.sharc_tree.specs.declared.tree.expression.Constant.{Constant}
use Rattle.sharc_tree.specs.declared.tree.expression.Constant.TheVariants.{Number}
use Rattle.sharc_tree.specs.{declared.tree.expression.UnaryOperator.TheVariants.Dereference, Spans.span_of}
use Rattle.sharc_tree.specs.Tree.{Expression, identifier, constant, parentheses, index, field, unary}
use Rattle.sharc_tree.specs.declared.ctype.Base.TheVariants as base
use Rattle.sharc_names.specs.declared.fault.Named.{Named}
use Rattle.sharc_names.specs.Kinds.{Kind, object, array, null, function, is_array, is_integer, element_kind}
use Rattle.sharc_names.specs.declared.fault.Named.TheVariants as named
use Rattle.sharc_code.specs.{declared.code.GlobalCells.GlobalCells, declared.code.PlaceMode.PlaceMode}
use Rattle.sharc_code.specs.declared.code.PlaceMode.TheVariants.{Private, Readonly, Racy, Dynamic, LockedGlobal}
use Rattle.sharc_code.specs.declared.code.PlaceMode.TheVariants.{LockedSibling, LockedThrough, LockedLoaded}
use Rattle.sharc_code.specs.{declared.code.Text.Text, declared.code.Use.Use, declared.instr.Cell.Cell}
use Rattle.sharc_code.specs.{declared.instr.Register.Register, declared.instr.Register.TheVariants.{Int, Reference}}
use Rattle.sharc_code.specs.declared.instr.Width.{Width}
use Rattle.sharc_code.specs.declared.code.Use.TheVariants as uses
use Rattle.sharc_code.specs.declared.instr.Cell.TheVariants as cells
use Rattle.sharc_code.specs.declared.instr.Width.TheVariants as widths
use Rattle.sharc_ctype.specs.Resolved.{Resolution, named_at, kind_at, global_at}
use Rattle.sharc_mode.specs.Cells.{is_behind_pointer}
use Rattle.sharc_mode.specs.Sharings.{Lock, Sharing, private, readonly, locked, racy, dynamic}
use Rattle.sharc_meaning.specs.Cells.{field_place as place_of_field, field_place_named, field_place_behind}
use Rattle.sharc_meaning.specs.Cells.{global_elements, element_cells}
use Rattle.sharc_flat.specs.{declared.op.Op.Op, declared.op.Spot.Spot, Machine.first_cell, declared.slot.Lvalue.Lvalue}
use Rattle.sharc_flat.specs.Scope.{Context, register_of, number_in, no_text, tokens_in, no_cell, at_site, at_words}
use Rattle.sharc_flat.specs.declared.op.Op.TheVariants as op

-- what an lvalue names: a variable; a field of a global, or of an element of one; a field of the first element of an
-- object, or of another one
pub data Target : Type 0 where
  variable : ℕ → Target
  in_global : ℕ → ℕ → Target
  in_global_at : ℕ → ℕ → Target
  in_object : ℕ → Target
  in_object_at : ℕ → Target

abbrev pub global_of : Target → ℕ
global_of (in_global g n) = g
global_of (in_global_at g n) = g
global_of _ = 0

-- the field of an element that is given by what is around it, else its own
abbrev pub own_field : Option ℕ → ℕ → ℕ
own_field None n = n
own_field (Some f) n = f

abbrev pub named_target : Named → ℕ → Target
named_target (named.Variable x) f = variable x
named_target (named.Global g) f = in_global g f
named_target _ f = variable 0

abbrev pub target : Resolution → Option ℕ → Expression → Target
target r f (identifier s i) = named_target (named_at r i.site.token) (own_field f 0)
target r f (parentheses s a) = target r f a
target r f (index s a i) =
    if is_array (kind_at r a) then in_global_at (global_of (target r None a)) (own_field f 0)
    else in_object_at (own_field f 0)
target r f (field s a Dot n) = target r (Some (own_field f (field_place_named r (named_at r n.site.token)))) a
target r f (field s a Arrow n) = in_object (own_field f (field_place_named r (named_at r n.site.token)))
target r f (unary s Dereference a) = in_object (own_field f 0)
target r f _ = variable 0

-- ---- the registers that it takes
abbrev pub has_base : Target → Bool
has_base (in_object f) = true
has_base (in_object_at f) = true
has_base _ = false

abbrev pub base_width : Target → ℕ
base_width t = if has_base t then 1 else 0

abbrev pub guard_width : Option ℕ → ℕ
guard_width None = 1
guard_width (Some mutex) = 2

abbrev pub index_width : Target → Option ℕ → ℕ
index_width (in_global_at g f) guard = guard_width guard
index_width (in_object_at f) guard = guard_width guard
index_width _ guard = 0

-- ---- its cell, and the cell of its element with the pointer to its mutex
abbrev pub cell_of : List GlobalCells → ℕ → ℕ → Target → Cell
cell_of globals i r (variable x) = cells.Global 0 0
cell_of globals i r (in_global g f) = cells.Global g (first_cell globals g + f)
cell_of globals i r (in_global_at g f) = cells.GlobalAt g i
cell_of globals i r (in_object f) = cells.Object r f
cell_of globals i r (in_object_at f) = cells.ObjectAt r i

abbrev pub guard_cell : List GlobalCells → ℕ → ℕ → ℕ → Target → Cell
guard_cell globals mutex i r (variable x) = cells.Global 0 0
guard_cell globals mutex i r (in_global g f) = cells.Global g (first_cell globals g + mutex)
guard_cell globals mutex i r (in_global_at g f) = cells.GlobalAt g (i + 1)
guard_cell globals mutex i r (in_object f) = cells.Object r mutex
guard_cell globals mutex i r (in_object_at f) = cells.ObjectAt r (i + 1)

abbrev pub field_of : Target → ℕ
field_of (variable x) = 0
field_of (in_global g f) = f
field_of (in_global_at g f) = f
field_of (in_object f) = f
field_of (in_object_at f) = f

-- ---- how lvalues are written
abbrev pub is_global : Named → Bool
is_global (named.Global g) = true
is_global _ = false

abbrev pub is_variable : Named → Bool
is_variable (named.Variable x) = true
is_variable _ = false

-- `x`, a pointer variable where it is a base
abbrev pub names_variable : Resolution → Expression → Bool
names_variable r (identifier s i) = is_variable (named_at r i.site.token)
names_variable r _ = false

abbrev pub names_global : Resolution → Expression → Bool
names_global r (identifier s i) = is_global (named_at r i.site.token)
names_global r _ = false

abbrev pub is_number : Constant → Bool
is_number (Number n) = true
is_number _ = false

abbrev pub is_number_token : Expression → Bool
is_number_token (constant s k) = is_number k
is_number_token _ = false

-- `x[c]`, with `x` a pointer variable or a global that is no pointer
abbrev pub is_simple_element : Resolution → Expression → Bool
is_simple_element r (index s a i) =
    (names_variable r a || (names_global r a && is_array (kind_at r a))) && is_number_token i
is_simple_element r _ = false

-- A simple place is a cell that is named by `x->f`, `*x`, `x[c]` or `x[c].f` with `x` a pointer variable and `c` a
-- number, or by a global `g`, or by `g.f`, `g[c]` or `g[c].f` with `g` a global that is no pointer.
abbrev pub is_simple_place : Resolution → Expression → Bool
is_simple_place r (identifier s i) = is_global (named_at r i.site.token)
is_simple_place r (index s a i) = is_simple_element r (index s a i)
is_simple_place r (field s a Dot n) = names_global r a || is_simple_element r a
is_simple_place r (field s a Arrow n) = names_variable r a
is_simple_place r (unary s Dereference a) = names_variable r a
is_simple_place r _ = false

abbrev pub bare_token : Expression → ℕ
bare_token (parentheses s a) = bare_token a
bare_token e = (span_of e).first.token

abbrev pub lvalue_of : Resolution → Expression → Lvalue
lvalue_of r e = record { words = span_of e; bare = bare_token e; is_simple = is_simple_place r e }

-- The text of a lock is given by two tokens: that of the lvalue without the parentheses around it, and that of its
-- first name.
abbrev pub lock_words : Lvalue → Sharing → Text
lock_words lvalue (locked l) = record { from = lvalue.bare; until = l.first }
lock_words lvalue _ = no_text

-- ---- modes
-- the field with the pointer to the mutex, where an access is locked behind one

abbrev pub guard_named : Resolution → Lock → Named → Option ℕ
guard_named r l (named.Field token) = if is_behind_pointer r l then Some (place_of_field r token) else None
guard_named r l _ = None

abbrev pub guard_field : Resolution → Sharing → Option ℕ
guard_field r (locked l) = guard_named r l (named_at r l.first)
guard_field r _ = None

-- the field with the mutex or with the pointer to it, where an access is locked by one of the same element
abbrev pub beside_named : Resolution → Lock → Named → Option ℕ
beside_named r l (named.Field token) = Some (place_of_field r token)
beside_named r l _ = None

abbrev pub beside_field : Resolution → Sharing → Option ℕ
beside_field r (locked l) = beside_named r l (named_at r l.first)
beside_field r _ = None

abbrev pub mode_beside : Bool → ℕ → ℕ → PlaceMode
mode_beside is_pointer n mutex = if is_pointer then LockedLoaded else LockedSibling n mutex

-- a path that names no mutex is one through NULL
abbrev pub mode_named : Context → ℕ → Lock → Named → Option (List ℕ) → PlaceMode
mode_named c n l (named.Field token) m =
    mode_beside (is_behind_pointer c.program.typed l) n (place_of_field c.program.typed token)
mode_named c n l (named.Global g) m = LockedGlobal g (first_cell c.globals g)
mode_named c n l (named.Variable x) (Some m) =
    LockedThrough (number_in (register_of c.scope x)) (field_place_behind c.program.typed x m)
mode_named c n l _ m = LockedLoaded

-- of an access to this field of an element
abbrev pub place_mode : Context → ℕ → Sharing → PlaceMode
place_mode c n private = Private
place_mode c n readonly = Readonly
place_mode c n (locked l) = mode_named c n l (named_at c.program.typed l.first) l.second
place_mode c n racy = Racy
place_mode c n dynamic = Dynamic

abbrev pub object_mode_named : Context → Named → Option (List ℕ) → PlaceMode
object_mode_named c (named.Global g) m = LockedGlobal g (first_cell c.globals g)
object_mode_named c (named.Variable x) (Some m) =
    LockedThrough (number_in (register_of c.scope x)) (field_place_behind c.program.typed x m)
object_mode_named c _ m = LockedLoaded

-- of an object that is made or given
abbrev pub object_mode : Context → Sharing → PlaceMode
object_mode c private = Private
object_mode c readonly = Readonly
object_mode c (locked l) = object_mode_named c (named_at c.program.typed l.first) l.second
object_mode c racy = Racy
object_mode c dynamic = Dynamic

-- the cell of the mutex, where it is one of the same element
abbrev pub lock_beside : List GlobalCells → ℕ → ℕ → Target → Option ℕ → Cell
lock_beside globals i r t None = no_cell
lock_beside globals i r t (Some mutex) = guard_cell globals mutex i r t

abbrev pub lock_cell : Context → ℕ → ℕ → Target → Sharing → Cell
lock_cell c i r t mode = lock_beside c.globals i r t (beside_field c.program.typed mode)

-- of an access, where what it names has these registers
abbrev pub spot_of : Context → ℕ → ℕ → Site → Lvalue → Use → Sharing → Target → Spot
spot_of c i r site lvalue use_made mode t = record {
  site = site;
  lvalue = tokens_in lvalue.words;
  lock_text = lock_words lvalue mode;
  mode = place_mode c (field_of t) mode;
  at = use_made;
  lock = lock_cell c i r t mode;
  is_simple = lvalue.is_simple;
}

-- where an object is made or given
abbrev pub object_spot : Context → Site → Text → Use → Sharing → Spot
object_spot c site words use_made mode =
    record (at_site site) { lvalue = words; mode = object_mode c mode; at = use_made }

-- ---- places
abbrev pub bounds_code : (ℕ → ℕ → Op) → ℕ → ℕ → Option ℕ → List Op
bounds_code bounds i n None = bounds i n ∷ []
bounds_code bounds i n (Some mutex) = op.Move (i + 1) i ∷ bounds i n ∷ bounds (i + 1) mutex ∷ []

-- `a[i]`, by the code of `a` as an array and as a pointer, and that of `i` after them
abbrev pub index_code : Context → ℕ → ℕ → Site → Option ℕ → Option ℕ → Expression → List Op → List Op → (ℕ → List Op)
    → List Op
index_code c i r site f guard a of_array of_pointer number =
    if is_array (kind_at c.program.typed a)
    then of_array ++ (number r ++ bounds_code
    (λ i n. op.GlobalBounds i (global_elements (global_at c.program.typed (global_of (target c.program.typed None a))))
    (element_cells c.program.typed (element_kind (kind_at c.program.typed a)))
    (first_cell c.globals (global_of (target c.program.typed None a)) + n) (at_site site))
    i (own_field f 0) guard)
    else of_pointer ++ (op.ChkNull r (at_site site) ∷ (number (r + 1) ++ bounds_code
    (λ i n. op.Bounds i r (element_cells c.program.typed (element_kind (kind_at c.program.typed a))) n (at_site site))
    i (own_field f 0) guard))

abbrev pub pointee_code : ℕ → Site → List Op → List Op
pointee_code r site pointer = pointer ++ op.ChkNull r (at_site site) ∷ []

-- ---- accesses
abbrev pub guard_code : Context → ℕ → ℕ → Site → Lvalue → Target → Option ℕ → List Op
guard_code c i r site lvalue t None = []
guard_code c i r site lvalue t (Some mutex) =
    op.LoadGuard (guard_cell c.globals mutex i r t) (record (at_words site lvalue.words uses.Read) { mode = Readonly })
    ∷ []

abbrev pub drop_base : ℕ → Target → List Op
drop_base r t = if has_base t then op.Pop r ∷ [] else []

-- the reference in the register after the base takes the base's place
abbrev pub settle_base : ℕ → Target → List Op
settle_base r t = if has_base t then op.Settle r (r + 1) ∷ [] else []

abbrev pub copy_code : ℕ → ℕ → Register → List Op
copy_code i r (Int x) = op.Move i x ∷ []
copy_code i r (Reference x) = op.Local r x ∷ []

abbrev pub cell_value_code : Context → ℕ → ℕ → Site → Lvalue → Sharing → Bool → Target → List Op
cell_value_code c i r site lvalue mode is_ref t =
    guard_code c i r site lvalue t (guard_field c.program.typed mode)
    ++ (if is_ref
    then op.LoadRef (r + base_width t) (cell_of c.globals i r t) (spot_of c i r site lvalue uses.Read mode t)
    ∷ settle_base r t
    else op.Load i (cell_of c.globals i r t) (spot_of c i r site lvalue uses.Read mode t) ∷ drop_base r t)

-- the value of what it names
abbrev pub value_code : Context → ℕ → ℕ → Site → Lvalue → Sharing → Bool → Target → List Op
value_code c i r site lvalue mode is_ref (variable x) = copy_code i r (register_of c.scope x)
value_code c i r site lvalue mode is_ref t = cell_value_code c i r site lvalue mode is_ref t

-- The value in these registers goes to what it names, whose registers are those given first.
abbrev pub settle_code : ℕ → ℕ → Register → List Op
settle_code i r (Int x) = op.Move x i ∷ []
settle_code i r (Reference x) = op.Settle x r ∷ []

abbrev pub cell_store_code : Context → ℕ → ℕ → ℕ → ℕ → Site → Lvalue → Sharing → Bool → Target → List Op
cell_store_code c i r vi vr site lvalue mode is_ref t =
    guard_code c i r site lvalue t (guard_field c.program.typed mode)
    ++ ((if is_ref
    then op.StoreRef vr (cell_of c.globals i r t) (spot_of c i r site lvalue uses.Write mode t)
    else op.Store vi (cell_of c.globals i r t) (spot_of c i r site lvalue uses.Write mode t)) ∷ drop_base r t)

abbrev pub store_code : Context → ℕ → ℕ → ℕ → ℕ → Site → Lvalue → Sharing → Bool → Target → List Op
store_code c i r vi vr site lvalue mode is_ref (variable x) = settle_code vi vr (register_of c.scope x)
store_code c i r vi vr site lvalue mode is_ref t = cell_store_code c i r vi vr site lvalue mode is_ref t

-- What is taken away comes to the first free reference register; what names the variable names it for the Take too.
abbrev pub take_use : (Option ℕ → Use) → Target → Use
take_use form (variable x) = form (Some x)
take_use form _ = form None

abbrev pub cell_take_code : Context → ℕ → ℕ → Site → Lvalue → Sharing → (Option ℕ → Use) → Target → List Op
cell_take_code c i r site lvalue mode form t =
    guard_code c i r site lvalue t (guard_field c.program.typed mode)
    ++ (op.TakeCell (r + base_width t) (cell_of c.globals i r t)
    (spot_of c i r site lvalue (form None) mode t) ∷ settle_base r t)

abbrev pub take_code : Context → ℕ → ℕ → Site → Lvalue → Sharing → (Option ℕ → Use) → Target → List Op
take_code c i r site lvalue mode form (variable x) = op.TakeLocal r (number_in (register_of c.scope x))
    (spot_of c 0 0 site lvalue (form (Some x)) mode (variable x)) ∷ []
take_code c i r site lvalue mode form t = cell_take_code c i r site lvalue mode form t

-- ---- widths and layouts
abbrev pub base_as_width : Base → Width
base_as_width base.Char = widths.Char
base_as_width base.Int = widths.Int
base_as_width base.Long = widths.Long
base_as_width base.Mutex = widths.Long
base_as_width base.Void = widths.Long
base_as_width (base.Struct name) = widths.Long

abbrev pub width_of : Kind → Width
width_of (object b stars) = base_as_width b
width_of (array b stars) = base_as_width b
width_of null = widths.Long
width_of function = widths.Long

-- an integer that goes to something of this type is one that it holds
abbrev pub width_code : ℕ → Kind → Site → List Op
width_code i kind site = if is_integer kind then op.ChkWidth (width_of kind) i (at_site site) ∷ [] else []
