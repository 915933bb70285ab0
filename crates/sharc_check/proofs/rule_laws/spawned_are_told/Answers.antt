use Rattle.sharc_check.proofs.ThreadRules.{spawned_by, by_spawned}
use Rattle.sharc_check.proofs.rule_laws.spawned_are_told.Goals as goal

pub returns : goal.returns
returns c = λ r k. (by_spawned r k, λ spawned. spawned_by r spawned.0 k spawned.1)
