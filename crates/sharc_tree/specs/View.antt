-- What the program's trees stand for.
use Rattle.std.specs.Prelude.{List, [], ◌∷◌, map, Option, Some, None}
use Rattle.sharc_tree.specs.Tree as tree
use Rattle.sharc_tree.specs.declared.tree.expression.Expr.{Expr, Identifier, Constant, Parentheses', Call', Spawn'}
use Rattle.sharc_tree.specs.declared.tree.expression.Expr.{OnValue', OnPlace', Cast', Index', Field', Unary', Binary'}
use Rattle.sharc_tree.specs.declared.tree.expression.Expr.{Row_of-Expr, end_of-Expr, more_of-Expr}
use Rattle.sharc_tree.specs.declared.tree.statement.Right.{Right}
use Rattle.sharc_tree.specs.declared.tree.statement.Right.TheVariants.{Value, Malloc}
use Rattle.sharc_tree.specs.declared.tree.statement.Simple.{Simple as RustSimple}
use Rattle.sharc_tree.specs.declared.tree.statement.Simple.TheVariants.{Assign, Call}
use Rattle.sharc_tree.specs.{declared.tree.statement.Local.Local, declared.tree.statement.ForFirst.ForFirst}
use Rattle.sharc_tree.specs.declared.tree.statement.ForFirst.TheVariants.{Nothing, Declares, Does}
use Rattle.sharc_tree.specs.declared.tree.statement.ForHead.{ForHead}
use Rattle.sharc_tree.specs.declared.tree.statement.Stmt.{Stmt, Empty, Block', Declare, Simple, Jump, Return, If'}
use Rattle.sharc_tree.specs.declared.tree.statement.Stmt.{IfElse', While', For', Row_of-Stmt, end_of-Stmt, more_of-Stmt}
use Rattle.sharc_tree.specs.{declared.tree.item.FunctionDefinition.FunctionDefinition, declared.tree.item.Item.Item}
use Rattle.sharc_tree.specs.declared.tree.item.Item.TheVariants.{Struct, Global, Function}
use Rattle.sharc_tree.specs.declared.tree.item.Program.{Program}

abbrev mutual
  pub view_expr : Expr → tree.Expression
  view_expr (Identifier s i) = tree.identifier s i
  view_expr (Constant s c) = tree.constant s c
  view_expr (Parentheses' s p a) = tree.parentheses s (view_expr a)
  view_expr (Call' s f shape all) = tree.call s f (view_row all)
  view_expr (Spawn' s f p a) = tree.spawn s f (view_expr a)
  view_expr (OnValue' s w p a) = tree.on_value s w (view_expr a)
  view_expr (OnPlace' s w p a) = tree.on_place s w (view_expr a)
  view_expr (Cast' s t p a) = tree.cast s t.value (view_expr a)
  view_expr (Index' s p a q i) = tree.index s (view_expr a) (view_expr i)
  view_expr (Field' s p a w n) = tree.field s (view_expr a) w n
  view_expr (Unary' s o p a) = tree.unary s o (view_expr a)
  view_expr (Binary' s o at p a q b) = tree.binary s o at (view_expr a) (view_expr b)

  pub view_row : {m : _} → Row_of-Expr m → tree.Arguments
  view_row end_of-Expr = tree.no_arguments
  view_row (more_of-Expr a rest) = tree.argument (view_expr a) (view_row rest)

-- the same of a Vec's elements
abbrev pub view_arguments : List Expr → tree.Arguments
view_arguments [] = tree.no_arguments
view_arguments (a ∷ rest) = tree.argument (view_expr a) (view_arguments rest)

abbrev pub view_option : {A B : Type 0} → (A → B) → Option A → Option B
view_option f None = None
view_option f (Some x) = Some (f x)

abbrev pub view_right : Right → tree.Right
view_right (Value e) = tree.value (view_expr e)
view_right (Malloc s n t) = tree.malloc s (view_option view_expr n) t

abbrev pub view_simple : RustSimple → tree.Simple
view_simple (Assign s u r) = tree.assign s (view_expr u) (view_right r)
view_simple (Call e) = tree.does_call (view_expr e)

abbrev pub view_local : Local → tree.Local
view_local l = record { span = l.span; declaration = l.declaration; initial = view_option view_right l.initial }

abbrev pub view_first : ForFirst → tree.First
view_first Nothing = tree.nothing
view_first (Declares l) = tree.declares (view_local l)
view_first (Does x) = tree.does (view_simple x)

abbrev pub view_head : ForHead → tree.Head
view_head h =
    record { first = view_first h.first; test = view_option view_expr h.test; step = view_option view_simple h.step }

abbrev mutual
  pub view_stmt : Stmt → tree.Statement
  view_stmt (Empty s) = tree.empty s
  view_stmt (Block' s shape all) = tree.block s (view_stmt_row all)
  view_stmt (Declare s l) = tree.declare s (view_local l.value)
  view_stmt (Simple s x) = tree.simple s (view_simple x.value)
  view_stmt (Jump s j) = tree.jump s j
  view_stmt (Return s e) = tree.return s (view_option (λ b. view_expr b.value) e)
  view_stmt (If' s e p a) = tree.if_then s (view_expr e.value) (view_stmt a)
  view_stmt (IfElse' s e p a q b) = tree.if_then_else s (view_expr e.value) (view_stmt a) (view_stmt b)
  view_stmt (While' s e p a) = tree.while s (view_expr e.value) (view_stmt a)
  view_stmt (For' s h p a) = tree.for s (view_head h.value) (view_stmt a)

  pub view_stmt_row : {m : _} → Row_of-Stmt m → tree.Statements
  view_stmt_row end_of-Stmt = tree.no_statements
  view_stmt_row (more_of-Stmt a rest) = tree.statement (view_stmt a) (view_stmt_row rest)

abbrev pub view_statements : List Stmt → tree.Statements
view_statements [] = tree.no_statements
view_statements (a ∷ rest) = tree.statement (view_stmt a) (view_statements rest)

abbrev pub view_function : FunctionDefinition → tree.Function
view_function f = record {
  span = f.span;
  result = f.result;
  name = f.name;
  parameters = f.parameters;
  body = f.body;
  statements = view_statements f.statements.items;
}

abbrev pub view_item : Item → tree.Item
view_item (Struct s) = tree.structure s
view_item (Global g) = tree.global g
view_item (Function f) = tree.function (view_function f)

abbrev pub view_items : List Item → List tree.Item
view_items = map view_item

abbrev pub view_program : Program → tree.Program
view_program p = record { files = p.files; items = view_items p.items; tokens = p.tokens }
