use Rattle.sharc_ctype.proofs.Imports.{◌≡◌, ◌++◌, drop, view_items, entities_in}
use Rattle.sharc_ctype.proofs.collect.entities_in.Given as goal

abbrev pub invariant-loop-item : goal.invariant-loop-item
invariant-loop-item l = l.entities ++ entities_in (view_items (drop l.item-index l.items)) ≡ entities_in (view_items l.items)
