use Rattle.std.proofs.Common.{◌≡◌, ◌≤◌, ◌++◌, length, drop}
use Rattle.sharc_tree.specs.Texts.{levels_text}
use Rattle.sharc_tree.proofs.print.add_levels.Given as goal

abbrev pub invariant-loop-at : goal.invariant-loop-at
invariant-loop-at l = (l.at ≤ length l.levels) × (l.text.items ≡ l.fn.text.items ++ levels_text (drop l.at l.levels))

abbrev pub decreases-loop-at : goal.decreases-loop-at
decreases-loop-at l = l.at
