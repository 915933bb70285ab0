use Rattle.sharc_accepted_laws.proofs.TargetTables as law
use Rattle.sharc_accepted_laws.proofs.targets.globals_hold.Goals as goal

pub returns : goal.returns
returns c = law.globals_hold c.meets_globals.ensures
