use Rattle.sharc_reply_laws.proofs.Warned.{one_list}
use Rattle.sharc_reply_laws.proofs.replies.warnings_are_one.Goals as goal

pub returns : goal.returns
returns c = one_list
