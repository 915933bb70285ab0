use Rattle.sharc_top.proofs.{Imports.{rules, refl}, Replies.{reply_too_long, reply_answered}}
use Rattle.sharc_top.proofs.words.answered.Goals as goal

pub returns-in_ok-reply-in-Ok-clause-reply : goal.returns-in_ok-reply-in-Ok-clause-reply
returns-in_ok-reply-in-Ok-clause-reply g c = λ words asked.
    let read = rw c.in-Ok.is at c.in_ok-source.ensures.read in
    reply_answered _ _ c.args.task c.in-Ok.source.items _ _ asked read.0 read.1 (rw c.deref.ensures.value at c.in_ok-reply-in-Ok.ensures)

pub returns-in-Err-clause-reply : goal.returns-in-Err-clause-reply
returns-in-Err-clause-reply g c = λ words asked.
    let read = rw c.in-Err.is at c.in_ok-source.ensures.read in
    reply_too_long _ _ _ _ (rw asked refl) read.0 read.1 read.2
