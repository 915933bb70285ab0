use Rattle.sharc_parse.proofs.{Imports.{◌≤◌, length, ◌-◌}, FieldSteps.FieldsSoFar}
use Rattle.sharc_parse.proofs.field.fields.Given as goal

abbrev pub invariant-loop-fields : goal.invariant-loop-fields
invariant-loop-fields l = record {
  so_far : FieldsSoFar l.tokens l.fn.at l.at l.fields.items;
  onward : l.fn.at ≤ l.at;
  within : l.at ≤ length l.tokens;
}

abbrev pub decreases-loop-fields : goal.decreases-loop-fields
decreases-loop-fields l = length l.tokens - l.at
