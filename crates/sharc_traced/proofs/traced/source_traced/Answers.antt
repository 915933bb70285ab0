use Rattle.sharc_schedule.specs.Shown.{view_of}
use Rattle.sharc_traced.proofs.Replying.{reply_built, reply_refused}
use Rattle.sharc_traced.proofs.traced.source_traced.Goals as goal

pub returns-in-Ok : goal.returns-in-Ok
returns-in-Ok c = reply_built c.args.form (view_of c.args.file.now) _ _ c.in-Ok.built c.run_traced.result c.deref.ensures.value c.in-Ok.is c.in_ok-built.ensures c.run_traced.ensures

pub returns-in-Err : goal.returns-in-Err
returns-in-Err c = reply_refused c.args.form (view_of c.args.file.now) _ _ c.in-Err.answer _ c.deref.ensures.value c.in-Err.is c.in_ok-built.ensures c.answered.ensures
