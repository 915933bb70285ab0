use Rattle.sharc_accepted_laws.proofs.Threads as threads
use Rattle.sharc_accepted_laws.proofs.typability.threads_pass.Goals as goal

pub returns : goal.returns
returns c = threads.threads_pass c.arguments_fit.ensures c.spawned_begin.ensures
