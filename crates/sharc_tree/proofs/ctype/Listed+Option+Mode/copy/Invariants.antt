use Rattle.std.proofs.Common.{◌≡◌, take}
use Rattle.sharc_tree.proofs.ctype.Listed+Option+Mode.copy.Given as goal

abbrev pub invariant-loop-level : goal.invariant-loop-level
invariant-loop-level l = l.list.items ≡ take l.level-index l.levels
