-- A Vec's children: the row in which they are stored, and the list that contracts see.
use Rattle.std.proofs.Common.{◌≡◌, List, [], ◌∷◌, ◌++◌, refl, ap, ◌∙◌, Global}
use Rattle.std.specs.Prelude.{Vec}
use mathlib.Core.Former.{Count}
use Rattle.sharc_tree.specs.{declared.token.Span.Span, declared.tree.declaration.Identifier.Identifier}
use Rattle.sharc_tree.specs.declared.tree.expression.Expr.{Expr, Call, Call', Row_of-Expr, end_of-Expr, more_of-Expr}
use Rattle.sharc_tree.specs.declared.tree.expression.Expr.{items-the_row-Expr, items_hidden-the_row-Expr-0}
use Rattle.sharc_tree.specs.declared.tree.statement.Stmt.{Stmt, Block, Block', Row_of-Stmt, end_of-Stmt, more_of-Stmt}
use Rattle.sharc_tree.specs.declared.tree.statement.Stmt.{items-the_row-Stmt, items_hidden-the_row-Stmt-0}
use Rattle.sharc_tree.specs.View.{view_expr, view_row, view_arguments, view_stmt, view_stmt_row, view_statements}
use Rattle.sharc_tree.specs.Tree as tree

row_same : (n : _) (row : Row_of-Expr n) → view_row row ≡ view_arguments (items-the_row-Expr n row)
row_same _ end_of-Expr = refl
row_same _ (more_of-Expr a rest) = ap (tree.argument (view_expr a)) (row_same _ rest)

abbrev row_in : Expr → (n : Count) × Row_of-Expr n
row_in (Call' _ _ _ row) = (_, row)
row_in _ = (_, end_of-Expr)

-- a call's arguments are those of its Vec
pub call_is : (s : Span) (f : Identifier) (list : Vec Expr Global)
    → view_expr (Call s f list) ≡ tree.call s f (view_arguments list.items)
call_is s f list = let row = row_in (Call s f list) in ap (tree.call s f)
    (row_same row.0 row.1 ∙ ap view_arguments (items_hidden-the_row-Expr-0 list))

stmt_row_same : (n : _) (row : Row_of-Stmt n) → view_stmt_row row ≡ view_statements (items-the_row-Stmt n row)
stmt_row_same _ end_of-Stmt = refl
stmt_row_same _ (more_of-Stmt a rest) = ap (tree.statement (view_stmt a)) (stmt_row_same _ rest)

abbrev stmt_row_in : Stmt → (n : Count) × Row_of-Stmt n
stmt_row_in (Block' _ _ row) = (_, row)
stmt_row_in _ = (_, end_of-Stmt)

-- a block's statements are those of its Vec
pub block_is : (s : Span) (list : Vec Stmt Global)
    → view_stmt (Block s list) ≡ tree.block s (view_statements list.items)
block_is s list = let row = stmt_row_in (Block s list) in ap (tree.block s)
    (stmt_row_same row.0 row.1 ∙ ap view_statements (items_hidden-the_row-Stmt-0 list))

-- the same of an expression that is a call, and of a statement that is a block
pub view_call : (e : Expr) (s : Span) (f : Identifier) (list : Vec Expr Global) → e ≡ Call s f list
    → view_expr e ≡ tree.call s f (view_arguments list.items)
view_call e s f list is = ap view_expr is ∙ call_is s f list

pub view_block : (a : Stmt) (s : Span) (list : Vec Stmt Global) → a ≡ Block s list
    → view_stmt a ≡ tree.block s (view_statements list.items)
view_block a s list is = ap view_stmt is ∙ block_is s list

-- a Vec's last element is the last child
pub view_arguments-push : (list : List Expr) (e : Expr)
    → view_arguments (list ++ e ∷ []) ≡ tree.with_argument (view_arguments list) (view_expr e)
view_arguments-push [] e = refl
view_arguments-push (a ∷ rest) e = ap (tree.argument (view_expr a)) (view_arguments-push rest e)

pub view_statements-push : (list : List Stmt) (a : Stmt)
    → view_statements (list ++ a ∷ []) ≡ tree.with_statement (view_statements list) (view_stmt a)
view_statements-push [] a = refl
view_statements-push (b ∷ rest) a = ap (tree.statement (view_stmt b)) (view_statements-push rest a)
