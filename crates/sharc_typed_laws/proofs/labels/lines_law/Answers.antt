use Rattle.sharc_typed_laws.proofs.Lines.{lines_typed}
use Rattle.sharc_typed_laws.proofs.labels.lines_law.Goals as goal

pub returns : goal.returns
returns c = lines_typed
