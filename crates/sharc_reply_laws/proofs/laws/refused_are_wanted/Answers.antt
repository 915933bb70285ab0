use Rattle.sharc_reply_laws.proofs.{Refused.refused_wanted, Wanting.first_is}
use Rattle.sharc_reply_laws.proofs.laws.refused_are_wanted.Goals as goal

pub returns : goal.returns
returns c = λ m p flat flattens fits code is x s ls wt shape few run checked t report halts stop j kind site shown.
    refused_wanted c.refused_stay.ensures.checks m code (first_is flat code is) (c.followed_law.ensures flat code is) s run checked t report j kind site shown
    (c.threads_stand_if_typed.ensures m p flat flattens fits code is x ls wt s shape few run checked t) halts stop
