use Rattle.sharc_judge.proofs.{Lowest.obeys_each, Unbroken.{rule_is, unbroken_more}}
use Rattle.sharc_judge.proofs.laws.rule_laws.Goals as goal

pub returns : goal.returns
returns c = record { unbroken = rule_is; more = unbroken_more; each = obeys_each }
