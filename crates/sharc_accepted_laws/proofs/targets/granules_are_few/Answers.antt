use Rattle.sharc_accepted_laws.proofs.Granules as law
use Rattle.sharc_accepted_laws.proofs.targets.granules_are_few.Goals as goal

pub returns : goal.returns
returns c = law.granules_are_few c.cells_are_few.ensures
