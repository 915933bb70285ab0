use Rattle.std.proofs.Common.{◌≡◌, take}
use Rattle.sharc_meaning.specs.Events.{latest}
use Rattle.sharc_judge.specs.Deciding.{test_of}
use Rattle.sharc_judge.proofs.history.latest.Given as goal

abbrev pub invariant-loop-e : goal.invariant-loop-e
invariant-loop-e l = l.last ≡ latest (test_of l.test) (take l.e-index l.events)
