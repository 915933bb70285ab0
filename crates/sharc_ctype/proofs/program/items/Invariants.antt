use Rattle.sharc_ctype.proofs.Imports.{◌≡◌, drop, fold, view_items, noted, items_notes}
use Rattle.sharc_ctype.proofs.program.items.Given as goal

abbrev pub invariant-loop-one : goal.invariant-loop-one
invariant-loop-one l = record {
  scope : l.scope ≡ l.fn.scope;
  found : fold noted l.found (items_notes l.scope (view_items (drop l.one-index l.list))) ≡ fold noted l.fn.found (items_notes l.fn.scope (view_items l.list));
}
