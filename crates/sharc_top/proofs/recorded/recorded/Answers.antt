use Rattle.sharc_top.proofs.{Imports.{arith, ap, length}, Recording.{reply_long_input, reply_record}}
use Rattle.sharc_top.proofs.recorded.recorded.Goals as goal

pub returns-in_ok-reply-in-Ok-clause-reply : goal.returns-in_ok-reply-in-Ok-clause-reply
returns-in_ok-reply-in-Ok-clause-reply g c =
    let read = rw c.in-Ok.is at c.in_ok-source.ensures.read in
    reply_record _ _ _ c.in-Ok.source.items _ _ read.0 read.1 (rw c.deref.ensures.value at c.in_ok-reply-in-Ok.ensures)

pub returns-in-Err-clause-reply : goal.returns-in-Err-clause-reply
returns-in-Err-clause-reply g c =
    let read = rw c.in-Err.is at c.in_ok-source.ensures.read in
    reply_long_input _ _ _ _ _ read.0 read.1 read.2
