-- Lists of children in which the cast is written one by one.
use Rattle.sharc_suggest_laws.proofs.Imports.{◌≡◌, ℕ, ◌+◌, ◌<◌, List, [], ◌∷◌, ◌++◌, length, take, get_or, refl, ap, sym, ◌∙◌, take_more, Expr, Stmt, Expression, Arguments, no_arguments, argument, with_argument, Statement, Statements, no_statements, statement, with_statement, view_expr, view_arguments, view_stmt, view_statements, view_arguments-push, view_statements-push, Recast, around, with_cast, all_with_cast, statement_with_cast, statements_with_cast}

argument_last : (c : Recast) (all : Arguments) (e : Expression) → all_with_cast c (with_argument all e) ≡ with_argument (all_with_cast c all) (around c (with_cast c e))
argument_last c no_arguments e = refl
argument_last c (argument a rest) e = ap (argument (around c (with_cast c a))) (argument_last c rest e)

statement_last : (c : Recast) (all : Statements) (a : Statement) → statements_with_cast c (with_statement all a) ≡ with_statement (statements_with_cast c all) (statement_with_cast c a)
statement_last c no_statements a = refl
statement_last c (statement b rest) a = ap (statement (statement_with_cast c b)) (statement_last c rest a)

pub argument_written : (c : Recast) (done more list : List Expr) (i : ℕ) (a b : Expr) → i < length list → more ≡ done ++ a ∷ [] → b ≡ get_or list i b → view_expr a ≡ around c (with_cast c (view_expr b)) → view_arguments done ≡ all_with_cast c (view_arguments (take i list))
    → view_arguments more ≡ all_with_cast c (view_arguments (take (i + 1) list))
argument_written c done more list i a b below is item same before =
    let last : take (i + 1) list ≡ take i list ++ b ∷ [] = take_more list i b below ∙ ap (λ x. take i list ++ x ∷ []) (sym item) in
    rw (is, last, view_arguments-push done a, view_arguments-push (take i list) b, argument_last c (view_arguments (take i list)) (view_expr b), before, same)

pub statement_written : (c : Recast) (done more list : List Stmt) (i : ℕ) (a b : Stmt) → i < length list → more ≡ done ++ a ∷ [] → b ≡ get_or list i b → view_stmt a ≡ statement_with_cast c (view_stmt b) → view_statements done ≡ statements_with_cast c (view_statements (take i list))
    → view_statements more ≡ statements_with_cast c (view_statements (take (i + 1) list))
statement_written c done more list i a b below is item same before =
    let last : take (i + 1) list ≡ take i list ++ b ∷ [] = take_more list i b below ∙ ap (λ x. take i list ++ x ∷ []) (sym item) in
    rw (is, last, view_statements-push done a, view_statements-push (take i list) b, statement_last c (view_statements (take i list)) (view_stmt b), before, same)
