use Rattle.sharc_check.proofs.Imports.{◌≡◌, drop, levels_of, position_levels, holds_private, holds_below}
use Rattle.sharc_check.proofs.types.holds_private.Given as goal

abbrev pub invariant-loop-i : goal.invariant-loop-i
invariant-loop-i l = holds_below l.above (drop l.i (position_levels l.program l.numbered)) ≡ holds_private (levels_of l.program l.numbered)
