use Rattle.sharc_top.proofs.{Imports.IfOk-weaker, Building.answers_refused, Verdicts.answers_program}
use Rattle.sharc_top.proofs.ran.run_source.Goals as goal

pub returns-in-Ok : goal.returns-in-Ok
returns-in-Ok g c =
    let is = rw c.in-Ok.is at c.in_ok-built.ensures in
    IfOk-weaker c.run_reply-reply.result _ _ (λ reply runs. answers_program _ _ _ _ _ is.front (runs _ is.accepted is.compiled is.numbers)) c.run_reply-reply.ensures

pub returns-in-Err : goal.returns-in-Err
returns-in-Err g c = let is = rw c.in-Err.is at c.in_ok-built.ensures in answers_refused _ _ _ _ is
