use Rattle.sharc_suggest_laws.proofs.Imports.{◌≡◌, take, view_arguments, all_with_cast}
use Rattle.sharc_suggest_laws.proofs.expression.+expr.Given as goal

abbrev pub invariant-arguments-loop-expr : goal.invariant-arguments-loop-expr
invariant-arguments-loop-expr l = view_arguments l.written.items ≡ all_with_cast l.c (view_arguments (take l.expr-index l.list))
