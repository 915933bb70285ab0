use Rattle.sharc_wants_laws.proofs.Taken as taken
use Rattle.sharc_wants_laws.proofs.meant.last_takers.Goals as goal

pub returns-clause-free : goal.returns-clause-free
returns-clause-free c = taken.last_takers_free c.free_laws.ensures.follow

pub returns-clause-took : goal.returns-clause-took
returns-clause-took c = taken.emptiers_took_last c.free_laws.ensures.emptied
