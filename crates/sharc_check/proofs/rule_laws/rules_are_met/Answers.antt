use Rattle.sharc_check.proofs.Law as law
use Rattle.sharc_check.proofs.rule_laws.rules_are_met.Goals as goal

pub returns : goal.returns
returns c = law.rules_are_met
