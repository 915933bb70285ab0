use Rattle.sharc_typed_laws.proofs.Beginning.{labels_stand}
use Rattle.sharc_typed_laws.proofs.labels.labels_law.Goals as goal

pub returns : goal.returns
returns c = labels_stand
