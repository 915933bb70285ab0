-- Forms of expressions and statements that later rules name.
use Rattle.std.specs.Prelude.{Bool, true, false, Option, Some, None}
use Rattle.sharc_tree.specs.declared.tree.declaration.Identifier.{Identifier}
use Rattle.sharc_tree.specs.declared.tree.expression.UnaryOperator.{UnaryOperator}
use Rattle.sharc_tree.specs.declared.tree.expression.UnaryOperator.TheVariants.{Dereference}
use Rattle.sharc_tree.specs.Tree.{Expression, identifier, parentheses, call, index, field, unary, Arguments, Statement}
use Rattle.sharc_tree.specs.Tree.{block, Statements}

-- an expression without the parentheses around it
abbrev pub without_parentheses : Expression → Expression
without_parentheses (parentheses s a) = without_parentheses a
without_parentheses e = e

abbrev pub is_dereference : UnaryOperator → Bool
is_dereference Dereference = true
is_dereference _ = false

-- whether an expression has the form of an lvalue (C11 6.3.2.1, 6.5.1, 6.5.2.1, 6.5.2.3 and 6.5.3.2): a name, `e[i]`,
-- `e.f`, `e->f`, `*e`, or one of these in parentheses. No function gives a struct, so in `e.f` the left side is one
-- wherever it has a type
abbrev pub is_lvalue : Expression → Bool
is_lvalue (identifier s i) = true
is_lvalue (parentheses s a) = is_lvalue a
is_lvalue (index s a i) = true
is_lvalue (field s a w n) = true
is_lvalue (unary s o a) = is_dereference o
is_lvalue _ = false

-- the name and the arguments of a call of a function by its name
abbrev pub parts_of_call : Expression → Option (Identifier × Arguments)
parts_of_call (call s f all) = Some (f, all)
parts_of_call _ = None

-- the statements of a block
abbrev pub parts_of_block : Statement → Option Statements
parts_of_block (block s all) = Some all
parts_of_block _ = None
