-- The expressions of a function of an accepted program are typable, as far as what is asked of its cells holds.
use Rattle.std.specs.Prelude.{ℕ, ◌≡◌, Bool, true, false, [], None}
use Rattle.sharc_tree.specs.{declared.token.Span.Span, declared.tree.declaration.Identifier.Identifier, Forms.is_lvalue}
use Rattle.sharc_tree.specs.Tree.{Expression, call, Arguments, Function}
use Rattle.sharc_names.specs.declared.fault.Named.TheVariants as named
use Rattle.sharc_names.specs.Kinds.{is_array, is_struct_behind, condition_pointer, mutex_pointer}
use Rattle.sharc_code.specs.declared.code.Code.{Code}
use Rattle.sharc_ctype.specs.Resolved.{named_at}
use Rattle.sharc_mode.specs.Cells.{is_mutex_kind}
use Rattle.sharc_flat.specs.{Flattened.{kind_of, target_of, guard_of}, Scope.Context}
use Rattle.sharc_flat.specs.Suits.{IsScalar, is_cell, Suits, PlaceSuits}
use Rattle.sharc_invariant.specs.Types.{StaticType, Content, MutexWord, Waiters}
use Rattle.sharc_typed_laws.specs.{Stretches.Setting, Typable.{type_by, FirstCell, IsTypable, IsPlaceTypable}}
use Rattle.sharc_accepted_laws.specs.{Joined.{PathLeads, BaseStands}, Typed.{IsOf, LvalueTyped}, Static.entry_of}
use Rattle.sharc_accepted_laws.specs.{Typing.typing, Setting.{setting_of, IsSet}}

-- ---- what is asked of cells
-- a type that names no register, of something that begins with this
abbrev pub HasFirst : Setting → Content → Type 0
HasFirst z content = (s : StaticType) × (s.locks ≡ []) × FirstCell z s content

-- pointers to condition variables and to mutexes refer to such, and there are types of them, as which NULL is passed
pub record ConditionsTyped (z : Setting) (c : Context) (n : ℕ) (g : Function) : Type 0 where
  pub conditions : (e : Expression) → IsOf c n g e → kind_of c e ≡ condition_pointer
      → FirstCell z (type_by (entry_of c e)) Waiters
  pub mutexes : (e : Expression) → IsOf c n g e → kind_of c e ≡ mutex_pointer
      → FirstCell z (type_by (entry_of c e)) MutexWord
  pub no_condition : HasFirst z Waiters
  pub no_mutex : HasFirst z MutexWord

-- What is asked where these variables stand, in function n with definition g: cells are accessed as their types say,
-- lock paths lead to mutexes, and what `wait`, `signal` and `broadcast` are passed is of their types.
pub record CellsTyped (z : Setting) (c : Context) (n : ℕ) (g : Function) : Type 0 where
  pub lvalues : (e : Expression) → IsOf c n g e → BaseStands c e → is_cell (target_of c e) ≡ true
      → LvalueTyped z typing c n e
  pub paths : (e : Expression) → IsOf c n g e → PathLeads c e
  pub known : (s : Span) (i : Identifier) (all : Arguments) → IsOf c n g (call s i all)
      → named_at c.program.typed i.site.token ≡ named.Known → ConditionsTyped z c n g

-- ---- what is then so
module _ (c : Context) (code : Code) (alone : ℕ → Bool) (lines n : ℕ) (g : Function) where
  abbrev pub here : Setting
  here = setting_of c.program c.globals code alone lines

  -- a struct or an array is no value
  abbrev pub IsValue : Expression → Type 0
  IsValue e = is_lvalue e ≡ true → IsScalar (kind_of c e)

  -- an lvalue that is a value or a mutex, and is accessed under its mode or under none
  pub record PlaceTypable (u : Expression) : Type 0 where
    pub bare_place : IsPlaceTypable here n typing c None None u
    pub place : is_mutex_kind (kind_of c u) ≡ false → IsPlaceTypable here n typing c None (guard_of c u) u

  pub record ExpressionsTypable : Type 0 where
    pub values : (e : Expression) → IsOf c n g e → Suits c e → IsValue e → IsTypable here n typing c e
    pub places : (u : Expression) → IsOf c n g u → PlaceSuits c u → is_struct_behind 0 (kind_of c u) ≡ false
        → is_array (kind_of c u) ≡ false → PlaceTypable u

abbrev pub ExpressionsAreTypable : Type 0
ExpressionsAreTypable = (c : Context) (code : Code) (alone : ℕ → Bool) (lines : ℕ)
    → IsSet c.program c.globals code alone → (n : ℕ) (g : Function)
    → CellsTyped (setting_of c.program c.globals code alone lines) c n g → ExpressionsTypable c code alone lines n g
