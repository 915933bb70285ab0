use Rattle.sharc_top.proofs.{Imports.IfOk-weaker, Building.gives_unbuilt, Recording.gives_program}
use Rattle.sharc_top.proofs.recorded.source_recorded.Goals as goal

pub returns-in-Ok : goal.returns-in-Ok
returns-in-Ok g c =
    let is = rw c.in-Ok.is at c.in_ok-built.ensures in
    IfOk-weaker c.file_of_run-reply.result _ _ (λ reply gives. gives_program _ _ _ _ _ is.front (gives _ is.accepted is.compiled is.numbers)) c.file_of_run-reply.ensures

pub returns-in-Err : goal.returns-in-Err
returns-in-Err g c = let is = rw c.in-Err.is at c.in_ok-built.ensures in gives_unbuilt _ _ _ _ is
