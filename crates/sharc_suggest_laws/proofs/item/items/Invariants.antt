use Rattle.sharc_suggest_laws.proofs.Imports.{◌≡◌, take, map, view_items, item_with_cast}
use Rattle.sharc_suggest_laws.proofs.item.items.Given as goal

abbrev pub invariant-loop-one : goal.invariant-loop-one
invariant-loop-one l = view_items l.written.items ≡ map (item_with_cast l.c) (view_items (take l.one-index l.list))
