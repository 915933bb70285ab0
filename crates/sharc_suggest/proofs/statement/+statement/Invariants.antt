use Rattle.sharc_suggest.proofs.Imports.{◌≡◌, ◌++◌, drop, view_statements, suggested_in, after_all, givings_in_all, told}
use Rattle.sharc_suggest.proofs.statement.+statement.Given as goal

abbrev pub invariant-statements-loop-stmt : goal.invariant-statements-loop-stmt
invariant-statements-loop-stmt l = record {
  scope : after_all l.scope (view_statements (drop l.stmt-index l.all)) ≡ after_all l.fn.scope (view_statements l.all);
  casts : l.casts.items ++ suggested_in l.known.moded.now (told l.known.named.now) (givings_in_all l.scope l.function (view_statements (drop l.stmt-index l.all))) ≡ l.fn.casts.items ++ suggested_in l.known.moded.now (told l.known.named.now) (givings_in_all l.fn.scope l.function (view_statements l.all));
}
