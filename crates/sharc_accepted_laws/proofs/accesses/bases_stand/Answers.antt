use Rattle.sharc_accepted_laws.proofs.Typed as law
use Rattle.sharc_accepted_laws.proofs.accesses.bases_stand.Goals as goal

pub returns : goal.returns
returns c = law.bases_stand
