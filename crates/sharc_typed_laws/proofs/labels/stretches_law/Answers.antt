use Rattle.sharc_typed_laws.proofs.Law.{stretches_join}
use Rattle.sharc_typed_laws.proofs.labels.stretches_law.Goals as goal

pub returns : goal.returns
returns c = stretches_join
