use Rattle.sharc_instance_laws.proofs.Built.{stuck_run}
use Rattle.sharc_instance_laws.proofs.laws.some_get_stuck.Goals as goal

pub returns : goal.returns
returns c = λ alloc. stuck_run alloc c.rules_are_met.ensures c.run_laws.ensures
