use Rattle.sharc_typed_laws.proofs.Blocks.{blocks_typed}
use Rattle.sharc_typed_laws.proofs.labels.blocks_law.Goals as goal

pub returns : goal.returns
returns c = blocks_typed
