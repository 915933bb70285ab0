-- The tree that definitions speak of: plain data, one constructor for each production, the tokens of each node first.
use Rattle.std.specs.Prelude.{ℕ, List, Option}
use Rattle.sharc_tree.specs.{declared.token.Site.Site, declared.token.Span.Span, declared.token.Tokens.Tokens}
use Rattle.sharc_tree.specs.declared.tree.declaration.Identifier.{Identifier}
use Rattle.sharc_tree.specs.declared.tree.declaration.WrittenType.{WrittenType}
use Rattle.sharc_tree.specs.declared.tree.declaration.Declaration.{Declaration}
use Rattle.sharc_tree.specs.declared.tree.expression.BinaryOperator.{BinaryOperator}
use Rattle.sharc_tree.specs.declared.tree.expression.UnaryOperator.{UnaryOperator}
use Rattle.sharc_tree.specs.{declared.tree.expression.FieldOperator.FieldOperator}
use Rattle.sharc_tree.specs.{declared.tree.expression.ValueCall.ValueCall}
use Rattle.sharc_tree.specs.{declared.tree.expression.PlaceCall.PlaceCall, declared.tree.statement.Jump.Jump}
use Rattle.sharc_tree.specs.declared.tree.expression.Constant.{Constant}
use Rattle.sharc_tree.specs.declared.tree.item.StructDefinition.{StructDefinition}
use Rattle.sharc_tree.specs.declared.tree.item.GlobalDefinition.{GlobalDefinition}

mutual
  -- a binary operator has its own site before its operands
  pub data Expression : Type 0 where
    identifier : Span → Identifier → Expression
    constant : Span → Constant → Expression
    parentheses : Span → Expression → Expression
    call : Span → Identifier → Arguments → Expression
    spawn : Span → Identifier → Expression → Expression
    on_value : Span → ValueCall → Expression → Expression
    on_place : Span → PlaceCall → Expression → Expression
    cast : Span → WrittenType → Expression → Expression
    index : Span → Expression → Expression → Expression
    field : Span → Expression → FieldOperator → Identifier → Expression
    unary : Span → UnaryOperator → Expression → Expression
    binary : Span → BinaryOperator → Site → Expression → Expression → Expression

  pub data Arguments : Type 0 where
    no_arguments : Arguments
    argument : Expression → Arguments → Arguments

-- one argument more at the end
abbrev pub with_argument : Arguments → Expression → Arguments
with_argument no_arguments e = argument e no_arguments
with_argument (argument a rest) e = argument a (with_argument rest e)

-- the right side of `=`; the count of a malloc may be left out
pub data Right : Type 0 where
  value : Expression → Right
  malloc : Span → Option Expression → WrittenType → Right

pub data Simple : Type 0 where
  assign : Span → Expression → Right → Simple
  does_call : Expression → Simple

pub record Local : Type 0 where
  pub span : Span
  pub declaration : Declaration
  pub initial : Option Right

pub data First : Type 0 where
  nothing : First
  declares : Local → First
  does : Simple → First

pub record Head : Type 0 where
  pub first : First
  pub test : Option Expression
  pub step : Option Simple

mutual
  -- `declare` is not a statement of the grammar: it is among the statements of a block only
  pub data Statement : Type 0 where
    empty : Span → Statement
    block : Span → Statements → Statement
    declare : Span → Local → Statement
    simple : Span → Simple → Statement
    jump : Span → Jump → Statement
    return : Span → Option Expression → Statement
    if_then : Span → Expression → Statement → Statement
    if_then_else : Span → Expression → Statement → Statement → Statement
    while : Span → Expression → Statement → Statement
    for : Span → Head → Statement → Statement

  pub data Statements : Type 0 where
    no_statements : Statements
    statement : Statement → Statements → Statements

-- one statement more at the end
abbrev pub with_statement : Statements → Statement → Statements
with_statement no_statements a = statement a no_statements
with_statement (statement first rest) a = statement first (with_statement rest a)

pub record Function : Type 0 where
  pub span : Span
  pub result : WrittenType
  pub name : Identifier
  pub parameters : List Declaration
  pub body : Span
  pub statements : Statements

pub data Item : Type 0 where
  structure : StructDefinition → Item
  global : GlobalDefinition → Item
  function : Function → Item

pub record Program : Type 0 where
  pub files : List (List ℕ)
  pub items : List Item
  pub tokens : Tokens
