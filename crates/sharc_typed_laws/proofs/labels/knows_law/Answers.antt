use Rattle.sharc_typed_laws.proofs.Lines.{lines_know}
use Rattle.sharc_typed_laws.proofs.labels.knows_law.Goals as goal

pub returns : goal.returns
returns c = lines_know
