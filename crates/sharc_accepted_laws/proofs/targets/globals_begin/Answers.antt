use Rattle.sharc_accepted_laws.proofs.Beginning as law
use Rattle.sharc_accepted_laws.proofs.targets.globals_begin.Goals as goal

pub returns : goal.returns
returns c = law.globals_begin c.meets_globals.ensures
