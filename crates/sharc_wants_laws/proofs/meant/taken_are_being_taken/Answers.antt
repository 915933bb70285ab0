use Rattle.sharc_wants_laws.proofs.Taken as taken
use Rattle.sharc_wants_laws.proofs.meant.taken_are_being_taken.Goals as goal

pub returns : goal.returns
returns c = taken.taken_are_being_taken c.free_laws.ensures.follow
