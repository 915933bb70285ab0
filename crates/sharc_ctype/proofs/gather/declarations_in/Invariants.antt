use Rattle.sharc_ctype.proofs.Imports.{◌≡◌, ◌++◌, drop, view_items, declarations_in}
use Rattle.sharc_ctype.proofs.gather.declarations_in.Given as goal

abbrev pub invariant-loop-item : goal.invariant-loop-item
invariant-loop-item l = l.declared ++ declarations_in (view_items (drop l.item-index l.items)) ≡ declarations_in (view_items l.items)
