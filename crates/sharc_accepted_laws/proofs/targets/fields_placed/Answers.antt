use Rattle.sharc_accepted_laws.proofs.Owners as law
use Rattle.sharc_accepted_laws.proofs.targets.fields_placed.Goals as goal

pub returns : goal.returns
returns c = law.fields_placed
