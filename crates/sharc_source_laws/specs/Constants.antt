-- The constants in the functions of a program that a source is: each has a value that its type holds.
use Rattle.std.specs.Prelude.{◌≡◌, ℕ, true, false, List, Option, Some, None, Ok, slice_get, Contains}
use Rattle.sharc_tree.specs.{declared.token.Span.Span, declared.token.Tokens.Tokens}
use Rattle.sharc_tree.specs.{declared.tree.expression.Constant.Constant, Measures.in_function}
use Rattle.sharc_tree.specs.Tree.{Program, Expression, identifier, constant, parentheses, call, spawn, on_value}
use Rattle.sharc_tree.specs.Tree.{on_place, cast, index, field, unary, binary, Arguments, no_arguments, argument, Right}
use Rattle.sharc_tree.specs.Tree.{value, malloc, Simple, assign, does_call, First, nothing, declares, does, Head}
use Rattle.sharc_tree.specs.Tree.{Statement, empty, block, declare, simple, jump, return, if_then, if_then_else, while}
use Rattle.sharc_tree.specs.Tree.{for, Statements, no_statements, statement, Function}
use Rattle.sharc_lex.specs.Grammar.{reading}
use Rattle.sharc_parse.specs.Places.{Reads}
use Rattle.sharc_ctype.specs.{Expressions.constant_kind, Resolved.functions_in}
use Rattle.sharc_meaning.specs.{Reference.constant_value, State.is_reference}
use Rattle.sharc_code.specs.Arithmetic.{holds}
use Rattle.sharc_flat.specs.Places.{width_of}

-- NULL has no value that a type of integers holds
abbrev pub IsHeld : Constant → Type 0
IsHeld k = is_reference (constant_kind k) ≡ false → holds (width_of (constant_kind k)) (constant_value k) ≡ true

abbrev mutual
  pub HeldIn : Expression → Type 0
  HeldIn (identifier s x) = Unit {0}
  HeldIn (constant s k) = IsHeld k
  HeldIn (parentheses s a) = HeldIn a
  HeldIn (call s f all) = HeldInAll all
  HeldIn (spawn s f a) = HeldIn a
  HeldIn (on_value s w a) = HeldIn a
  HeldIn (on_place s w a) = HeldIn a
  HeldIn (cast s t a) = HeldIn a
  HeldIn (index s a i) = HeldIn a × HeldIn i
  HeldIn (field s a w n) = HeldIn a
  HeldIn (unary s o a) = HeldIn a
  HeldIn (binary s o at a b) = HeldIn a × HeldIn b

  pub HeldInAll : Arguments → Type 0
  HeldInAll no_arguments = Unit {0}
  HeldInAll (argument a rest) = HeldIn a × HeldInAll rest

abbrev pub HeldInOption : Option Expression → Type 0
HeldInOption None = Unit {0}
HeldInOption (Some e) = HeldIn e

abbrev pub HeldInRight : Right → Type 0
HeldInRight (value e) = HeldIn e
HeldInRight (malloc s n t) = HeldInOption n

abbrev pub HeldInSimple : Simple → Type 0
HeldInSimple (assign s u x) = HeldIn u × HeldInRight x
HeldInSimple (does_call e) = HeldIn e

abbrev pub HeldInInitial : Option Right → Type 0
HeldInInitial None = Unit {0}
HeldInInitial (Some x) = HeldInRight x

abbrev pub HeldInFirst : First → Type 0
HeldInFirst nothing = Unit {0}
HeldInFirst (declares l) = HeldInInitial l.initial
HeldInFirst (does x) = HeldInSimple x

abbrev pub HeldInStep : Option Simple → Type 0
HeldInStep None = Unit {0}
HeldInStep (Some x) = HeldInSimple x

abbrev pub HeldInHead : Head → Type 0
HeldInHead h = HeldInFirst h.first × HeldInOption h.test × HeldInStep h.step

abbrev mutual
  pub HeldInStatement : Statement → Type 0
  HeldInStatement (empty s) = Unit {0}
  HeldInStatement (block s all) = HeldInStatements all
  HeldInStatement (declare s l) = HeldInInitial l.initial
  HeldInStatement (simple s x) = HeldInSimple x
  HeldInStatement (jump s j) = Unit {0}
  HeldInStatement (return s e) = HeldInOption e
  HeldInStatement (if_then s e x) = HeldIn e × HeldInStatement x
  HeldInStatement (if_then_else s e x y) = HeldIn e × HeldInStatement x × HeldInStatement y
  HeldInStatement (while s e x) = HeldIn e × HeldInStatement x
  HeldInStatement (for s h x) = HeldInHead h × HeldInStatement x

  pub HeldInStatements : Statements → Type 0
  HeldInStatements no_statements = Unit {0}
  HeldInStatements (statement x rest) = HeldInStatement x × HeldInStatements rest

-- as the lexer types numbers and characters (C11 6.4.4.1, 6.4.4.4)
abbrev pub ConstantsAreHeld : Type 0
ConstantsAreHeld = (source : List ℕ) (tokens : Tokens) (p : Program) → reading source ≡ Ok tokens → Reads tokens p
    → (n : ℕ) (f : Function) → slice_get (functions_in p.items) n ≡ Some f → HeldInStatements f.statements

-- each of them among the expressions of a function
abbrev pub EachConstantIsHeld : Type 0
EachConstantIsHeld = (source : List ℕ) (tokens : Tokens) (p : Program) → reading source ≡ Ok tokens → Reads tokens p
    → (f : Function) → Contains (functions_in p.items) f
    → (s : Span) (k : Constant) → Contains (in_function f) (constant s k) → IsHeld k
