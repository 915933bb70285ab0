use Rattle.sharc_top.proofs.Recording.{reply_long_recording}
use Rattle.sharc_top.proofs.replayed.replayed.Goals as goal

pub returns-in-Err-clause-reply : goal.returns-in-Err-clause-reply
returns-in-Err-clause-reply g c =
    let read = rw c.in-Err.is at c.in_ok-bytes.ensures.read in
    reply_long_recording _ _ _ read.0 read.1 read.2
