use Rattle.sharc_top.proofs.{Imports.IfOk-weaker, Replies.reply_of}
use Rattle.sharc_top.proofs.returning.without_waiting.Goals as goal

pub ended-requires : goal.ended-requires
ended-requires g c = IfOk-weaker c.reply_to-reply.result _ _ (λ reply is. reply_of _ _ _ _ (is c.requires.asked.words c.requires.asked.are)) c.reply_to-reply.ensures.reply
