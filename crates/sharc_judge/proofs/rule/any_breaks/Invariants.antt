use Rattle.std.proofs.Common.{◌≡◌, [], take, drop}
use Rattle.sharc_judge.specs.Deciding.{breaks_by, any_place}
use Rattle.sharc_judge.proofs.rule.any_breaks.Given as goal

abbrev pub invariant-loop-i : goal.invariant-loop-i
invariant-loop-i l = any_place (breaks_by l.rule l.until) (take l.i l.events) (drop l.i l.events) ≡ any_place (breaks_by l.rule l.until) [] l.events
