use Rattle.sharc_meaning_tests.proofs.Imports.{◌≡◌, drop, list_any, view_items, items_make}
use Rattle.sharc_meaning_tests.proofs.made.items_make.Given as goal

abbrev pub invariant-loop-item : goal.invariant-loop-item
invariant-loop-item l = items_make l.typed l.token l.cell (view_items (drop l.item-index l.items)) ≡ items_make l.typed l.token l.cell (view_items l.items)
