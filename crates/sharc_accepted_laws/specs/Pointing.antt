-- The locks of what a cell refers to: those of the table of targets name the same mutexes as those of the type that the
-- source gives to the cell's value.
use Rattle.std.specs.Prelude.{◌≡◌, ℕ, true, List, [], ◌∷◌, map, Option, Some, None, if◌then◌else◌}
use Rattle.std.specs.List.{AllByRecursion}
use Rattle.sharc_tree.specs.declared.tree.expression.FieldOperator.TheVariants.{Dot, Arrow}
use Rattle.sharc_tree.specs.{declared.tree.expression.UnaryOperator.TheVariants.Dereference, Measures.expressions}
use Rattle.sharc_tree.specs.Tree.{Expression, identifier, parentheses, index, field, unary}
use Rattle.sharc_names.specs.{declared.fault.Named.Named, Kinds.is_array}
use Rattle.sharc_names.specs.declared.fault.Named.TheVariants as named
use Rattle.sharc_ctype.specs.Resolved.{named_at, kind_at}
use Rattle.sharc_meaning.specs.Cells.{field_place_named}
use Rattle.sharc_mode.specs.{Moded.Assignment, Rows.{written, constant_use, named_row, modes_of, modes_at}}
use Rattle.sharc_mode.specs.Sharings.{Sharing}
use Rattle.sharc_check.specs.Constructs.{IsExpression}
use Rattle.sharc_flat.specs.{Places.{target, cell_of}, Scope.Context, Suits.{Either, is_cell}, Tables.globals_of}
use Rattle.sharc_invariant.specs.{Types.FieldLock, Labels.{Refers, Label, SameReference}, Typed.AreFieldLocks}
use Rattle.sharc_accepted_laws.specs.{Held.is_held, StaticLaws.IsAccepted, Static.{register, locks_at, static_of}}
use Rattle.sharc_accepted_laws.specs.{Shapes.{Form, form_of}, Targets.{field_locks, type_locks, lock_count}}

-- ---- the locks in the table
-- of what an element refers to, of which these are the forms from its own on
abbrev pub element_locks : List Form → List FieldLock
element_locks [] = []
element_locks (f ∷ below) = type_locks (lock_count f) below

abbrev pub pointee_locks : Option (List Sharing) → List FieldLock
pointee_locks None = []
pointee_locks (Some modes) = element_locks (map form_of modes)

-- of what is declared by this name, in this field of an element
abbrev pub declared_locks : Assignment → ℕ → Named → List FieldLock
declared_locks m n what = field_locks m.typed n (modes_of m (named_row m.typed written what))

-- of what the cell refers to that an lvalue names
abbrev pub content_locks : Assignment → Expression → List FieldLock
content_locks m (identifier s i) = declared_locks m 0 (named_at m.typed i.site.token)
content_locks m (parentheses s a) = content_locks m a
content_locks m (index s a i) = if is_array (kind_at m.typed a) then content_locks m a else pointee_locks (modes_at m a)
content_locks m (field s a w n) =
    declared_locks m (field_place_named m.typed (named_at m.typed n.site.token)) (named_at m.typed n.site.token)
content_locks m (unary s Dereference a) = pointee_locks (modes_at m a)
content_locks m _ = []

-- ---- the base of a cell
-- The register has the value of this pointer. Where that is a constant variable that keeps its reference, it has a copy
-- of it.
pub record BaseIs (c : Context) (l : Label) (r : ℕ) (a : Expression) : Type 0 where
  pub modes : List Sharing
  pub is : modes_at c.program a ≡ Some modes
  pub entry : l.env r ≡ Refers (static_of c (kind_at c.program.typed a) modes)
  pub copy : (token x : ℕ) → constant_use c.program.typed a ≡ Some token → named_at c.program.typed token
      ≡ named.Variable x → is_held c.program.typed x ≡ true → SameReference l r (register c x)

-- the register has the base of what an lvalue names, if there is one
abbrev pub IsBased : Context → Label → ℕ → Expression → Type 0
IsBased c l r (parentheses s a) = IsBased c l r a
IsBased c l r (index s a i) = Either (is_array (kind_at c.program.typed a)) (Unit {0}) (BaseIs c l r a)
IsBased c l r (field s a Dot n) = IsBased c l r a
IsBased c l r (field s a Arrow n) = BaseIs c l r a
IsBased c l r (unary s Dereference a) = BaseIs c l r a
IsBased c l r _ = Unit {0}

-- What the cell of an lvalue refers to has, in the table, the locks that the source gives it.
abbrev pub PlacesPoint : Type 0
PlacesPoint = (c : Context) → IsAccepted c.program → c.globals ≡ globals_of c.program.typed
    → (l : Label) (i r : ℕ) (e : Expression) (modes : List Sharing)
    → AllByRecursion (IsExpression c.program) (expressions e) → modes_at c.program e ≡ Some modes
    → is_cell (target c.program.typed None e) ≡ true → IsBased c l r e
    → AreFieldLocks l (cell_of c.globals i r (target c.program.typed None e)) (locks_at c modes)
    (content_locks c.program e)
