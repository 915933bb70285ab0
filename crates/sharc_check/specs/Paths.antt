-- Lock paths: which are allowed where, which a call reads, and which variables and globals they name.
use Rattle.std.specs.Prelude.{◌≡◌, IsTrue, ℕ, ◌+◌, ◌<◌, List, length, Some, None, slice_get, Contains}
use Rattle.sharc_tree.specs.declared.ctype.Base.TheVariants as base
use Rattle.sharc_tree.specs.{declared.ctype.Mode.TheVariants.{Readonly, Locked}, declared.ctype.Path.Path}
use Rattle.sharc_tree.specs.{declared.ctype.Path.TheVariants.{One, Through}, declared.token.Span.Span}
use Rattle.sharc_tree.specs.declared.tree.declaration.Declaration.{Declaration}
use Rattle.sharc_tree.specs.declared.tree.declaration.Identifier.{Identifier}
use Rattle.sharc_tree.specs.declared.tree.expression.FieldOperator.{FieldOperator}
use Rattle.sharc_tree.specs.declared.tree.expression.FieldOperator.TheVariants.{Arrow}
use Rattle.sharc_tree.specs.declared.tree.item.StructDefinition.{StructDefinition}
use Rattle.sharc_tree.specs.Tree.{Expression, identifier, field, Arguments}
use Rattle.sharc_names.specs.declared.fault.Named.TheVariants as named
use Rattle.sharc_names.specs.{Kinds.{object, mutex, declared_kind}, Names.field_of}
use Rattle.sharc_ctype.specs.{declared.entity.Entity.Entity, declared.entity.Numbered.Numbered, Constants.is_constant}
use Rattle.sharc_ctype.specs.Resolved.{Resolution, named_at, struct_at, declaration_at, named_kind}
use Rattle.sharc_mode.specs.declared.place.Place.TheVariants as place
use Rattle.sharc_mode.specs.{Cells.top_of, Moded.Assignment}
use Rattle.sharc_mode.specs.Rows.{PathReading, written, at_call, read_lock, declared_row, named_row, modes_of}
use Rattle.sharc_mode.specs.{Sharings.{Lock, locked, lock_of, object_of, is_sibling_lock}, WellFormed.place_of}
use Rattle.sharc_check.specs.Constructs.{IsExpression, IsCall, IsEntity}

-- ---- the forms of a lock path

-- the level of a type that is no pointer
abbrev pub IsBase : Entity → ℕ → Type 0
IsBase e depth = depth + 1 ≡ length e.written.ctype.levels

-- a mutex field of the struct that a variable's type has at its bottom
pub record IsMutexBehind (r : Resolution) (x : ℕ) (m : List ℕ) : Type 0 where
  pub variable : Declaration
  pub declared : declaration_at r x ≡ Some variable
  pub number : ℕ
  pub names : named_at r variable.written.base.token ≡ named.Struct number
  pub struct : StructDefinition
  pub defined : struct_at r number ≡ Some struct
  pub member : Declaration
  pub has : field_of struct.fields m ≡ Some member
  pub mutex : declared_kind member.written ≡ mutex

-- a field of type `mutex racy * readonly`; the mutex is racy, whatever is written there
pub record IsLockPointer (r : Resolution) (f : ℕ) : Type 0 where
  pub field : Declaration
  pub declared : declaration_at r f ≡ Some field
  pub pointer : declared_kind field.written ≡ object base.Mutex 1
  pub readonly : top_of field.written.ctype.levels ≡ Some Readonly

-- no target of a field takes its mode from the field's top: each that is no mutex has a mode of its own
abbrev pub AreTargetsWritten : Entity → Type 0
AreTargetsWritten e = (depth : ℕ) → 0 < depth → slice_get e.written.ctype.levels depth ≡ Some None
    → (e.written.ctype.base ≡ base.Mutex) × IsBase e depth

-- the path is allowed at this depth of a type
pub data IsAllowed (r : Resolution) (e : Entity) (depth : ℕ) : Path → Type 0 where
  -- `m`, a global mutex
  global_mutex : {text : List ℕ} {token g : ℕ} → named_at r token ≡ named.Global g
      → named_kind r (named.Global g) ≡ mutex → IsAllowed r e depth (One text token)
  -- in a field `m`, a sibling of type mutex
  sibling_mutex : {text : List ℕ} {token f : ℕ} → place_of e.role ≡ place.Field → named_at r token ≡ named.Field f
      → named_kind r (named.Field f) ≡ mutex → IsAllowed r e depth (One text token)
  -- on the top of a field alone `m`, a sibling of type `mutex racy * readonly`
  sibling_pointer : {text : List ℕ} {token f : ℕ} → place_of e.role ≡ place.Field → depth ≡ 0 → named_at r token
      ≡ named.Field f → IsLockPointer r f → AreTargetsWritten e → IsAllowed r e depth (One text token)
  -- in a function `x->m`, with `x` a constant variable and `m` a mutex field of what it points to
  through_constant : {text m : List ℕ} {token x : ℕ} → place_of e.role ≡ place.Local → named_at r token
      ≡ named.Variable x → IsTrue (is_constant r x) → IsMutexBehind r x m → IsAllowed r e depth (Through text token m)

-- ---- the paths of a program

-- a lock path in the type of a declaration, as it is read here: of a target's mode, or of what is written at some level
pub data HasPath (m : Assignment) (how : PathReading) (d : Declaration) : Lock → Type 0 where
  at_target : {l : Lock} → Contains (modes_of m (declared_row m.typed how d.name.site.token)) (locked l)
      → HasPath m how d l
  at_level : {path : Path} → Contains d.written.ctype.levels (Some (Locked path))
      → HasPath m how d (read_lock m.typed how (lock_of path))

-- the use `x->f` of a field, with `x` a constant variable
pub data IsThroughConstant (r : Resolution) : FieldOperator → Expression → ℕ → Type 0 where
  through : {s : Span} {i : Identifier} {x : ℕ} → named_at r i.site.token ≡ named.Variable x → IsTrue (is_constant r x)
      → IsThroughConstant r Arrow (identifier s i) x

-- the use of a field of which some target is locked by a sibling
pub record IsSiblingUse (m : Assignment) (a : Expression) (w : FieldOperator) : Type 0 where
  pub span : Span
  pub name : Identifier
  pub stands : IsExpression m (field span a w name)
  pub lock : Lock
  pub target : Contains (modes_of m (named_row m.typed written (named_at m.typed name.site.token))) (locked lock)
  pub sibling : IsTrue (is_sibling_lock m.typed lock)

-- the variable or the global that this token declares is named by some lock path: a written one, one that a call reads,
-- or one that the use of a field makes
pub data IsNamedByPath (m : Assignment) (x : ℕ) : Type 0 where
  is_written : {n : Numbered} {path : Path} → IsEntity m n → Contains n.entity.written.ctype.levels (Some (Locked path))
      → object_of m.typed (lock_of path) ≡ Some x → IsNamedByPath m x
  is_substituted : {parameters : List Declaration} {all : Arguments} {d : Declaration} {l : Lock}
      → IsCall m parameters all → Contains parameters d → HasPath m (at_call parameters all) d l
      → object_of m.typed l ≡ Some x → IsNamedByPath m x
  is_made : {a : Expression} {w : FieldOperator} → IsSiblingUse m a w → IsThroughConstant m.typed w a x
      → IsNamedByPath m x
