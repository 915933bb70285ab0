use Rattle.sharc_cpu.proofs.OnPath.{thread_within, thread_stops, stop_is}
use Rattle.sharc_cpu.proofs.laws.thread_law.Goals as goal

pub returns-clause-rows : goal.returns-clause-rows
returns-clause-rows c = (thread_within c.thread_laws.ensures c.args.code.now c.args.shape.now c.args.thread.now c.requires).granules

pub returns-clause-stage : goal.returns-clause-stage
returns-clause-stage c = (thread_within c.thread_laws.ensures c.args.code.now c.args.shape.now c.args.thread.now c.requires).stage

pub returns-clause-stop : goal.returns-clause-stop
returns-clause-stop c = stop_is c.args.thread.now.machine.at.state _ (thread_stops c.thread_laws.ensures c.args.code.now c.args.shape.now c.args.thread.now c.requires)
