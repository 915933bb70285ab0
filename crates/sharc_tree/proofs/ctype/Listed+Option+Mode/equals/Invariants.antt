use Rattle.std.proofs.Common.{◌≡◌, take}
use Rattle.sharc_tree.proofs.ctype.Listed+Option+Mode.equals.Given as goal

abbrev pub invariant-loop-i : goal.invariant-loop-i
invariant-loop-i l = take l.i l.levels ≡ take l.i l.others
