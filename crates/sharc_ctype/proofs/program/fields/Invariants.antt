use Rattle.sharc_ctype.proofs.Imports.{◌≡◌, [], take, drop, fold, noted, fields_notes}
use Rattle.sharc_ctype.proofs.program.fields.Given as goal

abbrev pub invariant-loop-one : goal.invariant-loop-one
invariant-loop-one l = record {
  earlier : l.earlier ≡ take l.one-index l.list;
  found : fold noted l.found (fields_notes l.scope l.list (take l.one-index l.list) (drop l.one-index l.list)) ≡ fold noted l.fn.found (fields_notes l.scope l.list [] l.list);
}
