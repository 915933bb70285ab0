use Rattle.std.proofs.Common.{◌≡◌, take}
use Rattle.sharc_tree.specs.View.{view_items}
use Rattle.sharc_tree.proofs.copy.item.copy_items.Given as goal

abbrev pub invariant-loop-item : goal.invariant-loop-item
invariant-loop-item l = view_items l.copied.items ≡ view_items (take l.item-index l.items)
