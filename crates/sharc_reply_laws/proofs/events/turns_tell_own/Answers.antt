use Rattle.sharc_reply_laws.proofs.Owned.{own_events}
use Rattle.sharc_reply_laws.proofs.events.turns_tell_own.Goals as goal

pub returns : goal.returns
returns c = λ code s run thread. own_events c.thread_laws.ensures.tells c.standing_laws.ensures code s thread run
