use Rattle.sharc_reply_laws.proofs.Stopping.{stopped}
use Rattle.sharc_reply_laws.proofs.events.stops_law.Goals as goal

pub returns : goal.returns
returns c = λ code s run checked t stop is. stopped c.run_laws.ensures code s run ((c.run_laws.ensures.checked code s run).0 checked) t stop is
