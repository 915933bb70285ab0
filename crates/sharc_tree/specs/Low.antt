-- Trees within the limits on height, stars and nesting, and in the forms that the grammar has.
use Rattle.std.specs.Prelude.{◌≡◌, ℕ, ◌+◌, ◌<◌, ◌≤◌, max, Bool, true, false, cond, List, [], ◌∷◌, length, Option, Some}
use Rattle.std.specs.Prelude.{None, IfSome}
use Rattle.sharc_tree.specs.{declared.ctype.Mode.Mode, declared.tree.declaration.WrittenType.WrittenType}
use Rattle.sharc_tree.specs.declared.tree.declaration.Declaration.{Declaration}
use Rattle.sharc_tree.specs.declared.tree.item.GlobalForm.{GlobalForm}
use Rattle.sharc_tree.specs.declared.tree.item.GlobalForm.TheVariants.{Initial}
use Rattle.sharc_tree.specs.Tree.{Expression, identifier, constant, parentheses, call, spawn, on_value, on_place, cast}
use Rattle.sharc_tree.specs.Tree.{index, field, unary, binary, Arguments, no_arguments, argument, Right, value, malloc}
use Rattle.sharc_tree.specs.Tree.{Simple, assign, does_call, Local, First, nothing, declares, does, Head, Statement}
use Rattle.sharc_tree.specs.Tree.{empty, block, declare, simple, jump, return, if_then, if_then_else, while, for}
use Rattle.sharc_tree.specs.Tree.{Statements, no_statements, statement, Item, structure, global, function, Program}
use Rattle.sharc_tree.specs.Measures.{nesting_of}
use Rattle.sharc_tree.specs.declared.tree.expression.Constant.TheVariants as constants

abbrev pub is_cast : Expression → Bool
is_cast (cast s t a) = true
is_cast _ = false

abbrev pub is_call : Expression → Bool
is_call (call s f all) = true
is_call (spawn s f a) = true
is_call (on_value s w a) = true
is_call (on_place s w a) = true
is_call _ = false

-- what is written where the grammar has a `unary`: anything but a binary operator without parentheses around it
abbrev pub is_unary : Expression → Bool
is_unary (binary s o at a b) = false
is_unary _ = true

-- The height that is limited. It is that of specs/Measures, but a cast counts only where its source is itself a cast:
-- so where a cast is written around an expression that is not one, the tree is as high as before.
abbrev mutual
  pub low_height : Expression → ℕ
  low_height (identifier s i) = 0
  low_height (constant s c) = 0
  low_height (parentheses s a) = low_height a + 1
  low_height (call s f all) = low_highest all + 1
  low_height (spawn s f a) = low_height a + 1
  low_height (on_value s w a) = low_height a + 1
  low_height (on_place s w a) = low_height a + 1
  low_height (cast s t a) = cond (is_cast a) (low_height a + 1) (low_height a)
  low_height (index s a i) = max (low_height a) (low_height i) + 1
  low_height (field s a w n) = low_height a + 1
  low_height (unary s o a) = low_height a + 1
  low_height (binary s o at a b) = max (low_height a) (low_height b) + 1

  pub low_highest : Arguments → ℕ
  low_highest no_arguments = 0
  low_highest (argument a rest) = max (low_height a) (low_highest rest)

-- a type with n stars has n + 1 levels
abbrev pub stars : List (Option Mode) → ℕ
stars [] = 0
stars (m ∷ below) = length below

abbrev pub LowType : WrittenType → Type 0
LowType t = (0 < length t.ctype.levels) × (stars t.ctype.levels ≤ 8)

-- no mode is written
abbrev pub NoModes : List (Option Mode) → Type 0
NoModes [] = Unit {0}
NoModes (None ∷ below) = NoModes below
NoModes (Some m ∷ below) = ⊥

-- the types in it are within the limit; `lock`, `unlock`, `free` and SCAST have a `unary`
abbrev mutual
  pub LowTypes : Expression → Type 0
  LowTypes (identifier s i) = Unit {0}
  LowTypes (constant s c) = Unit {0}
  LowTypes (parentheses s a) = LowTypes a
  LowTypes (call s f all) = AllLowTypes all
  LowTypes (spawn s f a) = LowTypes a
  LowTypes (on_value s w a) = LowTypes a
  LowTypes (on_place s w a) = (is_unary a ≡ true) × LowTypes a
  LowTypes (cast s t a) = LowType t × (is_unary a ≡ true) × LowTypes a
  LowTypes (index s a i) = LowTypes a × LowTypes i
  LowTypes (field s a w n) = LowTypes a
  LowTypes (unary s o a) = LowTypes a
  LowTypes (binary s o at a b) = LowTypes a × LowTypes b

  pub AllLowTypes : Arguments → Type 0
  AllLowTypes no_arguments = Unit {0}
  AllLowTypes (argument a rest) = LowTypes a × AllLowTypes rest

abbrev pub LowExpression : Expression → Type 0
LowExpression e = (low_height e ≤ 64) × LowTypes e

-- the count of a malloc begins at height 0, and its type has no modes
abbrev pub LowRight : Right → Type 0
LowRight (value e) = LowExpression e
LowRight (malloc s n t) =
    IfSome n (λ e. (is_unary e ≡ true) × LowExpression e) × LowType t × (t.mode_first ≡ false) × NoModes t.ctype.levels

abbrev pub LowSimple : Simple → Type 0
LowSimple (assign s u r) = (is_unary u ≡ true) × LowExpression u × LowRight r
LowSimple (does_call e) = (is_call e ≡ true) × LowExpression e

abbrev pub LowLocal : Local → Type 0
LowLocal l = LowType l.declaration.written × IfSome l.initial LowRight

abbrev pub LowFirst : First → Type 0
LowFirst nothing = Unit {0}
LowFirst (declares l) = LowLocal l
LowFirst (does x) = LowSimple x

abbrev pub LowHead : Head → Type 0
LowHead h = LowFirst h.first × IfSome h.test LowExpression × IfSome h.step LowSimple

-- a declaration is in a block only
abbrev pub is_statement : Statement → Bool
is_statement (declare s l) = false
is_statement _ = true

abbrev mutual
  pub LowStatement : Statement → Type 0
  LowStatement (empty s) = Unit {0}
  LowStatement (block s all) = LowStatements all
  LowStatement (declare s l) = LowLocal l
  LowStatement (simple s x) = LowSimple x
  LowStatement (jump s j) = Unit {0}
  LowStatement (return s e) = IfSome e LowExpression
  LowStatement (if_then s e a) = LowExpression e × (is_statement a ≡ true) × LowStatement a
  LowStatement (if_then_else s e a b) =
      LowExpression e × (is_statement a ≡ true) × LowStatement a × (is_statement b ≡ true) × LowStatement b
  LowStatement (while s e a) = LowExpression e × (is_statement a ≡ true) × LowStatement a
  LowStatement (for s h a) = LowHead h × (is_statement a ≡ true) × LowStatement a

  pub LowStatements : Statements → Type 0
  LowStatements no_statements = Unit {0}
  LowStatements (statement a rest) = LowStatement a × LowStatements rest

abbrev pub LowDeclarations : List Declaration → Type 0
LowDeclarations [] = Unit {0}
LowDeclarations (d ∷ rest) = LowType d.written × LowDeclarations rest

-- no `-` comes before NULL
abbrev pub LowForm : GlobalForm → Type 0
LowForm (Initial s true constants.Null) = ⊥
LowForm _ = Unit {0}

-- a struct has a field
abbrev pub LowItem : Item → Type 0
LowItem (structure s) = (0 < length s.fields) × LowDeclarations s.fields
LowItem (global g) = LowType g.declaration.written × LowForm g.form
LowItem (function f) =
    LowType f.result × LowDeclarations f.parameters × LowStatements f.statements × (nesting_of f ≤ 64)

abbrev pub LowItems : List Item → Type 0
LowItems [] = Unit {0}
LowItems (i ∷ rest) = LowItem i × LowItems rest

abbrev pub IsLow : Program → Type 0
IsLow p = LowItems p.items
