use Rattle.sharc.proofs.call.exit_code.Goals as goal

pub returns-in-Ok-clause-cut_short : goal.returns-in-Ok-clause-cut_short
returns-in-Ok-clause-cut_short g c = rw c.in-Ok.is (rw c.from.ensures (rw c.deref.ensures.value at c.sharc_top.ensures.cut_short))

pub returns-in-Ok-clause-unread : goal.returns-in-Ok-clause-unread
returns-in-Ok-clause-unread g c = rw c.in-Ok.is (rw c.deref.ensures.value at c.sharc_top.ensures.unread)
