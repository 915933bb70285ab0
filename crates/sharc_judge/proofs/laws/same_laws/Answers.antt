use Rattle.sharc_judge.proofs.Alike.{objects, cells, modes}
use Rattle.sharc_judge.proofs.laws.same_laws.Goals as goal

pub returns : goal.returns
returns c = record { objects = objects; cells = cells; modes = modes }
