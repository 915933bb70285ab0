use Rattle.sharc_top.proofs.{Imports.IfOk-weaker, Building.gives_unbuilt, Recording.gives_program}
use Rattle.sharc_top.proofs.replayed.source_replayed.Goals as goal

pub returns-in-Ok : goal.returns-in-Ok
returns-in-Ok c =
    let is = rw c.in-Ok.is at rw c.deref.ensures.value at c.in_ok-built.ensures in
    IfOk-weaker c.run_of_file-reply.result _ _ (λ reply gives. gives_program _ _ _ _ _ is.front (gives _ is.accepted is.compiled is.numbers)) c.run_of_file-reply.ensures

pub returns-in-Err : goal.returns-in-Err
returns-in-Err c = let is = rw c.in-Err.is at rw c.deref.ensures.value at c.in_ok-built.ensures in gives_unbuilt _ _ _ _ is
