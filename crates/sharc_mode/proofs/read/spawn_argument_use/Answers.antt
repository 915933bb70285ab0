use Rattle.sharc_mode.proofs.{Imports.view_expr, ArgumentLemmas.spawn_end}
use Rattle.sharc_mode.proofs.read.spawn_argument_use.Goals as goal

pub returns-else-parameter-wanted : goal.returns-else-parameter-wanted
returns-else-parameter-wanted c = spawn_end c.args.typed.now c.args.parameters.now c.parameter-item.result (view_expr c.args.value.now) c.args.wanted c.parameter-item.is c.if-parameter-wanted.false
