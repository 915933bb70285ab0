use Rattle.sharc_suggest.proofs.Imports.{◌≤◌, length, drop, HasFirst}
use Rattle.sharc_suggest.proofs.answer.by_token.Given as goal

abbrev pub invariant-loop-left : goal.invariant-loop-left
invariant-loop-left l = record {
  within : l.left ≤ length l.casts;
  first : HasFirst (drop l.left l.casts) l.first.entries;
}

abbrev pub decreases-loop-left : goal.decreases-loop-left
decreases-loop-left l = l.left
