use Rattle.sharc_ctype.proofs.Imports.{◌≡◌, ◌++◌, drop, view_statements, locals_in_all}
use Rattle.sharc_ctype.proofs.gather.+add_locals.Given as goal

abbrev pub invariant-add_all_locals-loop-stmt : goal.invariant-add_all_locals-loop-stmt
invariant-add_all_locals-loop-stmt l = l.declared ++ locals_in_all (view_statements (drop l.stmt-index l.list)) ≡ l.fn.declared ++ locals_in_all (view_statements l.list)
