use Rattle.sharc_reply_laws.proofs.Wanting.{first_is, lock_wanted}
use Rattle.sharc_reply_laws.proofs.laws.locks_are_wanted.Goals as goal

pub returns : goal.returns
returns c = λ m p flat flattens fits code is x s ls wt shape few run checked t site word stopped at shows.
    lock_wanted m code (first_is flat code is) s run t site word (c.threads_stand_if_typed.ensures m p flat flattens fits code is x ls wt s shape few run checked t) stopped at shows
