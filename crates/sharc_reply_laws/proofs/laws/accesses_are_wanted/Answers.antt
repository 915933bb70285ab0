use Rattle.sharc_reply_laws.proofs.{Imports.{place_after, history_of}, Wanting.{first_is, wants_access}}
use Rattle.sharc_reply_laws.proofs.laws.accesses_are_wanted.Goals as goal

pub returns : goal.returns
returns c = λ m p flat flattens fits code is x s ls wt shape few before checked check kind granule site passed made a access.
    let at = (place_after code s before).threads check.thread in
    wants_access m code (first_is flat code is) (history_of code s before) check.thread at
    (c.threads_stand_if_typed.ensures m p flat flattens fits code is x ls wt s shape few before checked check.thread)
    site made.site_is (c.followed_law.ensures flat code is at.at.pc) a access
