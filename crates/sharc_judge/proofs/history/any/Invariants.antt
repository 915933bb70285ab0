use Rattle.std.proofs.Common.{◌≡◌, drop}
use Rattle.std.specs.List.{list_any}
use Rattle.sharc_judge.specs.Deciding.{test_of}
use Rattle.sharc_judge.proofs.history.any.Given as goal

abbrev pub invariant-loop-e : goal.invariant-loop-e
invariant-loop-e l = list_any (test_of l.test) (drop l.e-index l.events) ≡ list_any (test_of l.test) l.events
