use Rattle.sharc_ctype.proofs.Imports.{◌≡◌, ◌-◌, drop, fold, length, view_statements, noted, beyond, locals_in_all}
use Rattle.sharc_ctype.proofs.locals.+locals.Given as goal

abbrev pub invariant-all_locals-loop-stmt : goal.invariant-all_locals-loop-stmt
invariant-all_locals-loop-stmt l = record {
  room : l.left - length (locals_in_all (view_statements (drop l.stmt-index l.list))) ≡ l.room - length (locals_in_all (view_statements l.list));
  found : fold noted l.found (beyond l.left (locals_in_all (view_statements (drop l.stmt-index l.list)))) ≡ fold noted l.fn.found (beyond l.room (locals_in_all (view_statements l.list)));
}
