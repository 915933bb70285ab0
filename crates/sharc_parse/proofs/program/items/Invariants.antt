use Rattle.sharc_parse.proofs.{Imports.{◌≤◌, length, ◌-◌}, ProgramSteps.ItemsSoFar}
use Rattle.sharc_parse.proofs.program.items.Given as goal

abbrev pub invariant-loop-at : goal.invariant-loop-at
invariant-loop-at l = record {
  so_far : ItemsSoFar l.tokens l.at l.items.items;
  within : l.at ≤ length l.tokens;
}

abbrev pub decreases-loop-at : goal.decreases-loop-at
decreases-loop-at l = length l.tokens - l.at
