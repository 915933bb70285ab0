use Rattle.sharc_accepted_laws.proofs.Numbers as law
use Rattle.sharc_accepted_laws.proofs.targets.shapes_closed.Goals as goal

pub returns : goal.returns
returns c = law.shapes_closed
