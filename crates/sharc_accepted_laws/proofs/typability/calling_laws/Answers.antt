use Rattle.sharc_accepted_laws.proofs.Calling as calling
use Rattle.sharc_accepted_laws.proofs.typability.calling_laws.Goals as goal

pub returns : goal.returns
returns c = calling.calling_laws c.each_names_itself.ensures c.arguments_fit.ensures c.scope_laws.ensures
