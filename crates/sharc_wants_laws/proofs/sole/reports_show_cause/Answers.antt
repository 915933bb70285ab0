use Rattle.sharc_wants_laws.proofs.Cause.{cause_shown}
use Rattle.sharc_wants_laws.proofs.sole.reports_show_cause.Goals as goal

pub returns : goal.returns
returns c = λ m p flat flattens fits code is.
    cause_shown c.paths_law.ensures c.reports_law.ensures.casts c.seen_law.ensures.begins c.logs_see.ensures c.arguments_see.ensures c.cells_see.ensures c.taken_are_being_taken.ensures m flat flattens code is
    (c.registers_seen.ensures m p flat flattens fits code is) (c.threads_have_begun.ensures m p.typed flat flattens fits code is) (c.silent_have_nothing.ensures m p flat flattens fits code is)
    (c.hands_fly.ensures m p flat flattens fits code is) (c.frees_empty.ensures m p flat flattens fits code is) (c.testers_give.ensures m p flat flattens fits code is)
