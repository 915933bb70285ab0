use Rattle.sharc_cli.proofs.Bounding.{are_within}
use Rattle.sharc_cli.proofs.laws.numbers_are_within.Goals as goal

pub returns : goal.returns
returns c = are_within
