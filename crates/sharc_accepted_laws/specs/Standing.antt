-- The lock paths of types lead through pointers that stand: of the type of each expression and each local of a
-- function, in the variables that stand there as flat code has them.
use Rattle.std.specs.{Prelude.List, List.AllByRecursion}
use Rattle.sharc_tree.specs.Measures.{expressions, in_option, in_simple, in_local}
use Rattle.sharc_tree.specs.Tree.{Expression, Local, First, nothing, declares, does, Statement, empty, block, declare}
use Rattle.sharc_tree.specs.Tree.{simple, jump, return, if_then, if_then_else, while, for, Statements, no_statements}
use Rattle.sharc_tree.specs.Tree.{statement, Function}
use Rattle.sharc_code.specs.declared.code.GlobalCells.{GlobalCells}
use Rattle.sharc_mode.specs.{Moded.Assignment, Rows.modes_at}
use Rattle.sharc_check.specs.Constructs.{IsFunction}
use Rattle.sharc_flat.specs.Flattened.{with_variable, behind_first, behind_statement, parameters_scope, in_function}
use Rattle.sharc_flat.specs.{Scope.Context, Suits.IfThere}
use Rattle.sharc_accepted_laws.specs.{StaticLaws.IsAccepted, Scopes.{AllStand, DeclaredStands, IsClosedScope}}

-- those of the type of an expression
abbrev pub ExpressionStands : Context → Expression → Type 0
ExpressionStands c e = IfThere (AllStand c.program c.scope) (modes_at c.program e)

abbrev pub ExpressionsStand : Context → List Expression → Type 0
ExpressionsStand c list = AllByRecursion (ExpressionStands c) list

-- of a local's type before it stands, and of what it begins with
abbrev pub LocalStands : Context → Local → Type 0
LocalStands c l = DeclaredStands c.program c.scope l.declaration.name.site.token
    × ExpressionsStand (with_variable c l.declaration) (in_local l)

abbrev pub FirstStands : Context → First → Type 0
FirstStands c nothing = Unit {0}
FirstStands c (declares l) = LocalStands c l
FirstStands c (does x) = ExpressionsStand c (in_simple x)

abbrev mutual
  pub StatementStands : Context → Statement → Type 0
  StatementStands c (empty s) = Unit {0}
  StatementStands c (block s all) = StatementsStand c all
  StatementStands c (declare s l) = LocalStands c l
  StatementStands c (simple s x) = ExpressionsStand c (in_simple x)
  StatementStands c (jump s j) = Unit {0}
  StatementStands c (return s e) = ExpressionsStand c (in_option expressions e)
  StatementStands c (if_then s e a) = ExpressionsStand c (expressions e) × StatementStands c a
  StatementStands c (if_then_else s e a b) =
      ExpressionsStand c (expressions e) × StatementStands c a × StatementStands c b
  StatementStands c (while s e a) = ExpressionsStand c (expressions e) × StatementStands c a
  StatementStands c (for s h a) =
      FirstStands c h.first × ExpressionsStand (behind_first c h.first) (in_option expressions h.test)
      × ExpressionsStand (behind_first c h.first) (in_option in_simple h.step)
      × StatementStands (behind_first c h.first) a

  pub StatementsStand : Context → Statements → Type 0
  StatementsStand c no_statements = Unit {0}
  StatementsStand c (statement a rest) = StatementStands c a × StatementsStand (behind_statement c a) rest

pub record FunctionStands (m : Assignment) (globals : List GlobalCells) (f : Function) : Type 0 where
  pub parameters : IsClosedScope m (parameters_scope f.parameters)
  pub statements : StatementsStand (in_function m globals f) f.statements

abbrev pub FunctionsStand : Type 0
FunctionsStand = (m : Assignment) → IsAccepted m
    → (globals : List GlobalCells) (f : Function) → IsFunction m f → FunctionStands m globals f
