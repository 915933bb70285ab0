use Rattle.sharc_typed_laws.proofs.Lines.{lines_tell}
use Rattle.sharc_typed_laws.proofs.labels.tells_law.Goals as goal

pub returns : goal.returns
returns c = lines_tell
