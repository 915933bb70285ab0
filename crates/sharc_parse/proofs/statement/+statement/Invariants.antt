use Rattle.sharc_parse.proofs.{Imports.{◌≤◌, ◌+◌, ◌-◌, length, ◌*◌}, NestedSteps.StatementsSoFar}
use Rattle.sharc_parse.proofs.statement.+statement.Given as goal

abbrev pub decreases-statement : goal.decreases-statement
decreases-statement l = 4 * (length l.tokens.now - l.at.now) + 1

abbrev pub decreases-statements : goal.decreases-statements
decreases-statements l = 4 * (length l.tokens.now - l.at.now) + 2

abbrev pub decreases-rest_of_statement : goal.decreases-rest_of_statement
decreases-rest_of_statement l = 4 * (length l.tokens.now - l.at.now) + 3

abbrev pub decreases-rest_of_if : goal.decreases-rest_of_if
decreases-rest_of_if l = 4 * (length l.tokens.now - l.at.now) + 2

abbrev pub decreases-rest_of_while : goal.decreases-rest_of_while
decreases-rest_of_while l = 4 * (length l.tokens.now - l.at.now) + 2

abbrev pub decreases-rest_of_for : goal.decreases-rest_of_for
decreases-rest_of_for l = 4 * (length l.tokens.now - l.at.now) + 2

abbrev pub invariant-statements-loop-alloc : goal.invariant-statements-loop-alloc
invariant-statements-loop-alloc l = record {
  so_far : StatementsSoFar l.room l.tokens l.fn.at l.at l.list.items;
  onward : l.fn.at ≤ l.at;
  within : l.at ≤ length l.tokens;
}

abbrev pub decreases-statements-loop-alloc : goal.decreases-statements-loop-alloc
decreases-statements-loop-alloc l = length l.tokens - l.at
