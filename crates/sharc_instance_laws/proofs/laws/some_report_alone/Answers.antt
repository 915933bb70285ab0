use Rattle.sharc_instance_laws.proofs.Built.{reporting}
use Rattle.sharc_instance_laws.proofs.laws.some_report_alone.Goals as goal

pub returns : goal.returns
returns c = λ alloc. reporting alloc c.rules_are_met.ensures c.run_laws.ensures c.standing_laws.ensures.numbers
