use Rattle.sharc_parse.proofs.{Imports.{◌≤◌, length, ◌-◌, may_stand}, TypeSteps.SoFar}
use Rattle.sharc_parse.proofs.types.written_type.Given as goal

abbrev pub invariant-loop-levels : goal.invariant-loop-levels
invariant-loop-levels l = record {
  so_far : SoFar (may_stand l.modes) l.tokens l.fn.at l.at l.mode_first l.base l.place l.levels.items;
  onward : l.fn.at ≤ l.at;
  within : l.at ≤ length l.tokens;
}

abbrev pub decreases-loop-levels : goal.decreases-loop-levels
decreases-loop-levels l = length l.tokens - l.at
