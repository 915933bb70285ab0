-- Lists of children that are copied one by one.
use Rattle.std.proofs.{Common.{◌≡◌, ℕ, ◌+◌, ◌<◌, List, [], ◌∷◌, ◌++◌, length, take, get_or, ap, sym, ◌∙◌}, lemmas.List.take_more}
use Rattle.sharc_tree.specs.{declared.tree.expression.Expr.Expr, declared.tree.statement.Stmt.Stmt, View.{view_expr, view_arguments, view_stmt, view_statements}, Children.{view_arguments-push, view_statements-push}}

pub argument_copied : (done more list : List Expr) (i : ℕ) (a b : Expr) → i < length list → more ≡ done ++ a ∷ [] → b ≡ get_or list i b → view_expr a ≡ view_expr b → view_arguments done ≡ view_arguments (take i list) → view_arguments more ≡ view_arguments (take (i + 1) list)
argument_copied done more list i a b below is item same before =
    let last : take (i + 1) list ≡ take i list ++ b ∷ [] = take_more list i b below ∙ ap (λ x. take i list ++ x ∷ []) (sym item) in
    rw (is, last, view_arguments-push done a, view_arguments-push (take i list) b, before, same)

pub statement_copied : (done more list : List Stmt) (i : ℕ) (a b : Stmt) → i < length list → more ≡ done ++ a ∷ [] → b ≡ get_or list i b → view_stmt a ≡ view_stmt b → view_statements done ≡ view_statements (take i list) → view_statements more ≡ view_statements (take (i + 1) list)
statement_copied done more list i a b below is item same before =
    let last : take (i + 1) list ≡ take i list ++ b ∷ [] = take_more list i b below ∙ ap (λ x. take i list ++ x ∷ []) (sym item) in
    rw (is, last, view_statements-push done a, view_statements-push (take i list) b, before, same)
