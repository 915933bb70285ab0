-- The mode of the cell that an expression names.
use Rattle.std.specs.Prelude.{◌==◌, Bool, false, ◌&&◌, List, [], ◌∷◌, Option, Some, None, if◌then◌else◌}
use Rattle.sharc_tree.specs.declared.ctype.Mode.{Mode}
use Rattle.sharc_tree.specs.declared.ctype.Mode.TheVariants.{Private, Readonly, Locked, Racy, Dynamic}
use Rattle.sharc_tree.specs.declared.tree.declaration.WrittenType.{WrittenType}
use Rattle.sharc_tree.specs.declared.tree.declaration.Declaration.{Declaration}
use Rattle.sharc_tree.specs.declared.tree.item.GlobalDefinition.{GlobalDefinition}
use Rattle.sharc_tree.specs.declared.tree.expression.FieldOperator.{FieldOperator}
use Rattle.sharc_tree.specs.declared.tree.expression.FieldOperator.TheVariants.{Dot, Arrow}
use Rattle.sharc_tree.specs.declared.tree.expression.UnaryOperator.{UnaryOperator}
use Rattle.sharc_tree.specs.declared.tree.expression.UnaryOperator.TheVariants.{Negate, Not, Complement, Dereference}
use Rattle.sharc_tree.specs.Tree.{Expression, identifier, constant, parentheses, call, spawn, on_value, on_place, cast}
use Rattle.sharc_tree.specs.Tree.{index, field, unary, binary}
use Rattle.sharc_tree.specs.declared.ctype.Base.TheVariants as base
use Rattle.sharc_names.specs.{declared.fault.Named.Named, Kinds.{Kind, object, is_array, is_pointer, declared_kind}}
use Rattle.sharc_names.specs.declared.fault.Named.TheVariants as named
use Rattle.sharc_ctype.specs.Resolved.{Resolution, named_at, global_at, declaration_at, named_kind, kind_at}
use Rattle.sharc_ctype.specs.{declared.entity.Numbered.Numbered, Entities.entity_at}
use Rattle.sharc_mode.specs.{Moded.{Assignment, mode_at}, Rows.{Targets, modes_of, row_at}}
use Rattle.sharc_mode.specs.Sharings.{Lock, Sharing, private, readonly, locked, racy, dynamic, lock_of, is_private}
use Rattle.sharc_mode.specs.Sharings.{is_sibling_lock}

-- an object of C type mutex
abbrev pub is_mutex_kind : Kind → Bool
is_mutex_kind (object base.Mutex stars) = stars == 0
is_mutex_kind _ = false

-- the path names a sibling that points to a mutex
abbrev pub is_behind_pointer : Resolution → Lock → Bool
is_behind_pointer r l = is_sibling_lock r l && is_pointer (named_kind r (named_at r l.first))

-- a field's written mode, in an instance of mode q
abbrev pub written_cell : Resolution → Sharing → Option Mode → Sharing
written_cell r q None = q
written_cell r q (Some Readonly) = if is_private q then private else readonly
written_cell r q (Some (Locked path)) =
    if is_behind_pointer r (lock_of path) && is_private q then private else locked (lock_of path)
written_cell r q (Some Private) = private
written_cell r q (Some Racy) = racy
written_cell r q (Some Dynamic) = dynamic

-- the mode that is written at the top of a type
abbrev pub top_of : List (Option Mode) → Option Mode
top_of [] = None
top_of (level ∷ below) = level

-- a mutex always has mode racy
abbrev pub field_cell : Resolution → Sharing → WrittenType → Sharing
field_cell r q w = if is_mutex_kind (declared_kind w) then racy else written_cell r q (top_of w.ctype.levels)

abbrev pub declared_cell : Resolution → Sharing → Option Declaration → Sharing
declared_cell r q None = private
declared_cell r q (Some d) = field_cell r q d.written

abbrev pub field_named : Resolution → Sharing → Named → Sharing
field_named r q (named.Field token) = declared_cell r q (declaration_at r token)
field_named r q _ = private

-- the top of a global is its first position
abbrev pub first_mode : Assignment → Option Numbered → Sharing
first_mode m None = private
first_mode m (Some n) = mode_at m n.first

abbrev pub global_cell : Assignment → Option GlobalDefinition → Sharing
global_cell m None = private
global_cell m (Some g) = first_mode m (entity_at m.typed g.declaration.name.site.token g.declaration.name.site.token)

-- locals and parameters are private
abbrev pub named_cell : Assignment → Named → Sharing
named_cell m (named.Global n) = global_cell m (global_at m.typed n)
named_cell m _ = private

-- the mode of the first target
abbrev pub first_of : List Sharing → Sharing
first_of [] = private
first_of (s ∷ rest) = s

abbrev pub pointed : Assignment → Option Targets → Sharing
pointed m None = private
pointed m (Some row) = first_of (modes_of m row)

abbrev pub unary_cell : UnaryOperator → Sharing → Sharing
unary_cell Negate target = private
unary_cell Not target = private
unary_cell Complement target = private
unary_cell Dereference target = target

-- the mode of the instance in which `.` and `->` name a field
abbrev pub instance : FieldOperator → Sharing → Sharing → Sharing
instance Dot cell target = cell
instance Arrow cell target = target

-- private where the expression names no cell
abbrev pub cell_at : Assignment → Expression → Sharing
cell_at m (identifier s i) = named_cell m (named_at m.typed i.site.token)
cell_at m (constant s c) = private
cell_at m (parentheses s a) = cell_at m a
cell_at m (call s f all) = private
cell_at m (spawn s f a) = private
cell_at m (on_value s w a) = private
cell_at m (on_place s w a) = private
cell_at m (cast s t a) = private
cell_at m (index s a i) = if is_array (kind_at m.typed a) then cell_at m a else pointed m (row_at m.typed a)
cell_at m (field s a w n) =
    field_named m.typed (instance w (cell_at m a) (pointed m (row_at m.typed a))) (named_at m.typed n.site.token)
cell_at m (unary s o a) = unary_cell o (pointed m (row_at m.typed a))
cell_at m (binary s o at a b) = private
