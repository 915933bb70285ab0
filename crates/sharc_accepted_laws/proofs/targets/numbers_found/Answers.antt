use Rattle.sharc_accepted_laws.proofs.Numbers as law
use Rattle.sharc_accepted_laws.proofs.targets.numbers_found.Goals as goal

pub returns : goal.returns
returns c = law.numbers_found
