-- Expressions of accepted programs are typable, as far as they access no cell: what their values are, and those of
-- variables, constants and operators.
use Rattle.std.specs.{Prelude.{◌≡◌, ℕ, true, false, Some}, List.AllByRecursion}
use Rattle.sharc_tree.specs.{declared.token.Site.Site, declared.token.Span.Span}
use Rattle.sharc_tree.specs.declared.tree.declaration.Identifier.{Identifier}
use Rattle.sharc_tree.specs.declared.tree.expression.BinaryOperator.{BinaryOperator}
use Rattle.sharc_tree.specs.declared.tree.expression.Constant.{Constant}
use Rattle.sharc_tree.specs.declared.tree.expression.UnaryOperator.{UnaryOperator}
use Rattle.sharc_tree.specs.declared.tree.expression.UnaryOperator.TheVariants.{Negate, Not, Complement, Dereference}
use Rattle.sharc_tree.specs.{Measures.expressions, Tree.{Expression, identifier, constant, unary, binary}}
use Rattle.sharc_names.specs.declared.fault.Named.TheVariants as named
use Rattle.sharc_names.specs.Kinds.{Kind, is_integer, is_pointer}
use Rattle.sharc_code.specs.Arithmetic.{holds}
use Rattle.sharc_ctype.specs.{Expressions.constant_kind, Resolved.named_at}
use Rattle.sharc_meaning.specs.{Reference.constant_value, State.is_reference}
use Rattle.sharc_check.specs.Constructs.{IsExpression}
use Rattle.sharc_flat.specs.{Flattened.{kind_of, is_ref}, Places.width_of, Scope.{Context, slot_kind, register_of}}
use Rattle.sharc_flat.specs.Suits.{IsScalar, OperandsSuit}
use Rattle.sharc_accepted_laws.specs.{StaticLaws.IsAccepted, Standing.ExpressionStands, Typing.typing}
use Rattle.sharc_typed_laws.specs.Stretches.{Setting}
use Rattle.sharc_typed_laws.specs.Typable.{IsPointer, VariableTyped, ConstantTyped, UnaryTyped, BinaryTyped, HasType}

-- an expression of a function, where the variables of its lock paths stand
pub record IsAt (c : Context) (e : Expression) : Type 0 where
  pub inside : AllByRecursion (IsExpression c.program) (expressions e)
  pub stands : ExpressionStands c e

-- ---- values
-- a value is an integer, or NULL or a reference of a type that names variables that stand and keep their references
abbrev pub ValuesHaveTypes : Type 0
ValuesHaveTypes = (z : Setting) (f : ℕ) (c : Context) → IsAccepted c.program
    → (e : Expression) → IsAt c e → IsScalar (kind_of c e) → HasType z f typing c e

-- what is a pointer by its C type is no NULL
abbrev pub PointersAreTyped : Type 0
PointersAreTyped = (z : Setting) (f : ℕ) (c : Context) → IsAccepted c.program
    → (e : Expression) → IsAt c e → is_pointer (kind_of c e) ≡ true → IsPointer z f typing c e

-- ---- by their forms
-- a variable that stands has what its register holds
abbrev pub VariablesAreTyped : Type 0
VariablesAreTyped = (z : Setting) (f : ℕ) (c : Context) → IsAccepted c.program → (s : Span) (i : Identifier) (x : ℕ)
    → IsAt c (identifier s i) → named_at c.program.typed i.site.token ≡ named.Variable x
    → slot_kind c.scope x ≡ Some (is_ref c (identifier s i)) → IsScalar (kind_of c (identifier s i))
    → VariableTyped z f typing c (identifier s i) (register_of c.scope x)

-- a number that its type holds
abbrev pub ConstantsAreTyped : Type 0
ConstantsAreTyped = (z : Setting) (f : ℕ) (c : Context) (s : Span) (k : Constant)
    → (is_reference (constant_kind k) ≡ false → holds (width_of (constant_kind k)) (constant_value k) ≡ true)
    → ConstantTyped z f typing c (constant s k) k (is_ref c (constant s k))

-- what an operator takes (6.5.3.2 and 6.5.3.3)
abbrev pub OperandSuits : UnaryOperator → Kind → Type 0
OperandSuits Negate kind = is_integer kind ≡ true
OperandSuits Not kind = Unit {0}
OperandSuits Complement kind = is_integer kind ≡ true
OperandSuits Dereference kind = is_pointer kind ≡ true

abbrev pub UnariesAreTyped : Type 0
UnariesAreTyped = (z : Setting) (f : ℕ) (c : Context) → IsAccepted c.program
    → (s : Span) (o : UnaryOperator) (a : Expression) → IsAt c a → OperandSuits o (kind_of c a)
    → UnaryTyped z f typing c (unary s o a) o a

abbrev pub BinariesAreTyped : Type 0
BinariesAreTyped = (z : Setting) (f : ℕ) (c : Context) (s : Span) (o : BinaryOperator) (at : Site) (a b : Expression)
    → OperandsSuit o (kind_of c a) (kind_of c b) → BinaryTyped z f typing c (binary s o at a b) o a b

pub record ValueLaws : Type 0 where
  pub values : ValuesHaveTypes
  pub pointers : PointersAreTyped
  pub variables : VariablesAreTyped
  pub constants : ConstantsAreTyped
  pub unaries : UnariesAreTyped
  pub binaries : BinariesAreTyped
