-- What is well-moded: the rules M1 to M11, one clause each.
use Rattle.std.specs.Prelude.{◌≡◌, IsTrue, ℕ, ◌+◌, ◌<◌, List, ◌∷◌, drop, length, Some, slice_get, Contains}
use Rattle.sharc_tree.specs.declared.ctype.Base.TheVariants as base
use Rattle.sharc_tree.specs.{declared.ctype.Mode.Mode, declared.ctype.Mode.TheVariants.{Private, Racy, Locked}}
use Rattle.sharc_tree.specs.{declared.ctype.Path.Path, declared.token.Span.Span}
use Rattle.sharc_tree.specs.declared.tree.declaration.Declaration.{Declaration}
use Rattle.sharc_tree.specs.declared.tree.declaration.Identifier.{Identifier}
use Rattle.sharc_tree.specs.declared.tree.declaration.WrittenType.{WrittenType}
use Rattle.sharc_tree.specs.declared.tree.expression.FieldOperator.{FieldOperator}
use Rattle.sharc_tree.specs.{declared.tree.item.GlobalDefinition.GlobalDefinition, Forms.without_parentheses}
use Rattle.sharc_tree.specs.Tree.{Expression, identifier, cast, Arguments, Right, Function}
use Rattle.sharc_names.specs.declared.types.Role.TheVariants as role
use Rattle.sharc_ctype.specs.{declared.entity.Entity.Entity, declared.entity.Numbered.Numbered, Entities.positions_of}
use Rattle.sharc_ctype.specs.{Reaches.{Spawns, IsTouched}, Resolved.{named_at, global_at, function_at}}
use Rattle.sharc_mode.specs.{declared.place.Place.Place, Cells.{cell_at, top_of}, Moded.Assignment, Pairs.IsBelow}
use Rattle.sharc_mode.specs.Rows.{written, argument_use, path_variable, declared_row, cast_row, modes_of, modes_at}
use Rattle.sharc_mode.specs.{Sharings.{Lock, Sharing, private, readonly, same_all, object_named}, WellFormed.place_of}
use Rattle.sharc_mode.specs.declared.place.Place.TheVariants as place
use Rattle.sharc_check.specs.Constructs.{IsExpression, IsCall, IsTaken, IsAssigned, IsGiven, IsEntity, IsWritten}
use Rattle.sharc_check.specs.Paths.{IsBase, IsAllowed, HasPath, IsThroughConstant, IsSiblingUse, IsNamedByPath}

-- M1: what is assigned, begun with, passed, spawned with or returned has, in each target, the mode of what it is
-- given to. NULL has no modes and agrees with every pointer type, and so does malloc
abbrev pub GivenAgree : Assignment → Type 0
GivenAgree m = (to found : List Sharing) (e : Expression) → IsGiven m to e → modes_at m e ≡ Some found
    → IsTrue (same_all m.typed to found)

-- M2: no assignment writes a readonly cell
abbrev pub NoneReadonlyAssigned : Assignment → Type 0
NoneReadonlyAssigned m = (u : Expression) (x : Right) → IsAssigned m u x → cell_at m u ≡ readonly → ⊥

-- M3: no level that is not private is directly above a private target. The top of a global is a position; that of any
-- other type counts where it is written
pub record NoneAbovePrivate (m : Assignment) : Type 0 where
  pub positions : (x y : ℕ) (mode : Mode) → IsBelow m.typed x y → slice_get m.modes x ≡ Some mode
      → slice_get m.modes y ≡ Some Private → mode ≡ Private
  pub tops : (n : Numbered) (mode : Mode) → IsEntity m n → (n.entity.role ≡ role.Global → ⊥) → IsWritten n.entity 0 mode
      → 0 < positions_of n.entity → slice_get m.modes n.first ≡ Some Private → mode ≡ Private

-- M4: each lock path is of a form that is allowed there; and where the type of a parameter needs another one `x` for a
-- path `x->m`, the argument for `x` is a constant variable
pub record ArePathsAllowed (m : Assignment) : Type 0 where
  pub forms : (n : Numbered) (depth : ℕ) (path : Path) → IsEntity m n → IsWritten n.entity depth (Locked path)
      → IsAllowed m.typed n.entity depth path
  pub arguments : (parameters : List Declaration) (all : Arguments) (d : Declaration) (l : Lock) (x : ℕ)
      → IsCall m parameters all → Contains parameters d → HasPath m written d l → path_variable m.typed l ≡ Some x
      → (y : ℕ) × (argument_use m.typed parameters all x ≡ Some y)

-- the top of a local, a parameter, a result or a cast
pub data HasPrivateTop : Place → Type 0 where
  of_variable : HasPrivateTop place.Local
  of_result : HasPrivateTop place.Result

-- M5: no pointer and no struct is racy, a mutex is nothing else, and the top of a local, a parameter, a result or a
-- cast is private
pub record IsModeAllowed (e : Entity) (depth : ℕ) (mode : Mode) : Type 0 where
  pub pointer : depth + 1 < length e.written.ctype.levels → mode ≡ Racy → ⊥
  pub struct : (name : List ℕ) → e.written.ctype.base ≡ base.Struct name → IsBase e depth → mode ≡ Racy → ⊥
  pub mutex : e.written.ctype.base ≡ base.Mutex → IsBase e depth → mode ≡ Racy
  pub top : HasPrivateTop (place_of e.role) → depth ≡ 0 → mode ≡ Private

abbrev pub AreModesAllowed : Assignment → Type 0
AreModesAllowed m = (n : Numbered) (depth : ℕ) (mode : Mode) → IsEntity m n → IsWritten n.entity depth mode
    → IsModeAllowed n.entity depth mode

-- M6: `private` is not written in a field
abbrev pub NoFieldPrivate : Assignment → Type 0
NoFieldPrivate m = (n : Numbered) (depth : ℕ) → IsEntity m n → n.entity.role ≡ role.Field
    → IsWritten n.entity depth Private → ⊥

-- M7: no function that is spawned has a parameter with a private target, and no global that threads touch has `private`
-- written on its top
pub record NoneShared (m : Assignment) : Type 0 where
  pub parameters : (n k : ℕ) (f : Function) (d : Declaration) (below : List Sharing)
      → Spawns m.typed n k → function_at m.typed k ≡ Some f → Contains f.parameters d
      → modes_of m (declared_row m.typed written d.name.site.token) ≡ private ∷ below → ⊥
  pub globals : (n : ℕ) (g : GlobalDefinition) → IsTouched m.typed n → global_at m.typed n ≡ Some g
      → top_of g.declaration.written.ctype.levels ≡ Some Private → ⊥

-- M8: the type of a cast has, in each target from depth 2 on, the mode of its source's
abbrev pub CastsKeepDeeper : Assignment → Type 0
CastsKeepDeeper m = (s : Span) (t : WrittenType) (a : Expression) (found : List Sharing) → IsExpression m (cast s t a)
    → modes_at m a ≡ Some found → IsTrue (same_all m.typed (drop 1 (modes_of m (cast_row m.typed s))) (drop 1 found))

-- M9: SCAST and `free` take nothing from a readonly cell
abbrev pub NoneReadonlyTaken : Assignment → Type 0
NoneReadonlyTaken m = (a : Expression) → IsTaken m a → cell_at m a ≡ readonly → ⊥

-- M10: nor from a variable or a global that a lock path names
abbrev pub NoneNamedTaken : Assignment → Type 0
NoneNamedTaken m = (a : Expression) (s : Span) (i : Identifier) (x : ℕ) → IsTaken m a → without_parentheses a
    ≡ identifier s i → object_named m.typed (named_at m.typed i.site.token) ≡ Some x → IsNamedByPath m x → ⊥

-- M11: a field of which a target is locked by a sibling is used as `x->f` alone, with `x` a constant variable
abbrev pub SiblingsThroughConstants : Assignment → Type 0
SiblingsThroughConstants m = (a : Expression) (w : FieldOperator) → IsSiblingUse m a w
    → (x : ℕ) × IsThroughConstant m.typed w a x

pub record MeetsRules (m : Assignment) : Type 0 where
  pub m1 : GivenAgree m
  pub m2 : NoneReadonlyAssigned m
  pub m3 : NoneAbovePrivate m
  pub m4 : ArePathsAllowed m
  pub m5 : AreModesAllowed m
  pub m6 : NoFieldPrivate m
  pub m7 : NoneShared m
  pub m8 : CastsKeepDeeper m
  pub m9 : NoneReadonlyTaken m
  pub m10 : NoneNamedTaken m
  pub m11 : SiblingsThroughConstants m
