use Rattle.sharc_cpu.proofs.Joined.{goes_join}
use Rattle.sharc_cpu.proofs.laws.path_laws.Goals as goal

pub returns : goal.returns
returns g c = goes_join g.P.Port.leads
