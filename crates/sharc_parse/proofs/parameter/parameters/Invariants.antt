use Rattle.sharc_parse.proofs.{Imports.{◌≤◌, length, ◌-◌}, ParameterSteps.GivenSoFar}
use Rattle.sharc_parse.proofs.parameter.parameters.Given as goal

abbrev pub invariant-loop-alloc : goal.invariant-loop-alloc
invariant-loop-alloc l = record {
  so_far : GivenSoFar l.tokens l.fn.at l.at l.list.items;
  onward : l.fn.at ≤ l.at;
  within : l.at ≤ length l.tokens;
}

abbrev pub decreases-loop-alloc : goal.decreases-loop-alloc
decreases-loop-alloc l = length l.tokens - l.at
