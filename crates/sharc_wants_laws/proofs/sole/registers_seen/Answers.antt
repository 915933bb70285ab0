use Rattle.sharc_wants_laws.proofs.Referred.{register_seen}
use Rattle.sharc_wants_laws.proofs.sole.registers_seen.Goals as goal

pub returns : goal.returns
returns c = λ m p flat flattens fits code is.
    register_seen m code (c.threads_see.ensures m p flat flattens fits code is) (c.casters_hold.ensures m p flat flattens fits code is)
