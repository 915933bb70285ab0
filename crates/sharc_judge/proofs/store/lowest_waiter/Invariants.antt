use Rattle.std.proofs.Common.{◌≡◌, drop}
use Rattle.sharc_judge.specs.Deciding.{lowest_from, lowest_waiter}
use Rattle.sharc_judge.proofs.store.lowest_waiter.Given as goal

abbrev pub invariant-loop-e : goal.invariant-loop-e
invariant-loop-e l = lowest_from l.before l.cell l.least (drop l.e-index l.before) ≡ lowest_waiter l.before l.cell l.before
