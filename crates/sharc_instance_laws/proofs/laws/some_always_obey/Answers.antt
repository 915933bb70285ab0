use Rattle.sharc_instance_laws.proofs.Built.{obeying}
use Rattle.sharc_instance_laws.proofs.laws.some_always_obey.Goals as goal

pub returns : goal.returns
returns c = λ alloc. obeying alloc c.rules_are_met.ensures c.run_laws.ensures
