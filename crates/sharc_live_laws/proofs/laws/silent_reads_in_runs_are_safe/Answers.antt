use Rattle.sharc_live_laws.proofs.Silent as silent
use Rattle.sharc_live_laws.proofs.laws.silent_reads_in_runs_are_safe.Goals as goal

pub returns : goal.returns
returns c = silent.silent_reads_in_runs_are_safe
