use Rattle.sharc_accepted_laws.proofs.TargetCells as law
use Rattle.sharc_accepted_laws.proofs.targets.cells_are.Goals as goal

pub returns : goal.returns
returns c = law.cells_are
