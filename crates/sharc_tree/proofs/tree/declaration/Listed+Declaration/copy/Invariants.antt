use Rattle.std.proofs.Common.{◌≡◌, take}
use Rattle.sharc_tree.proofs.tree.declaration.Listed+Declaration.copy.Given as goal

abbrev pub invariant-loop-declaration : goal.invariant-loop-declaration
invariant-loop-declaration l = l.list.items ≡ take l.declaration-index l.declarations
