use Rattle.sharc_suggest_laws.proofs.Spread.{values_begin_apart}
use Rattle.sharc_suggest_laws.proofs.laws.values_begin_apart.Goals as goal

pub returns : goal.returns
returns c = values_begin_apart
