use Rattle.sharc_mode.proofs.{Imports.{sym, ◌∙◌, drop}, ArgumentLemmas.arguments_end}
use Rattle.sharc_mode.proofs.row.argument_use.Goals as goal

pub returns-then-i-arguments : goal.returns-then-i-arguments
returns-then-i-arguments c = sym (arguments_end c.args.typed.now (drop c.loop-i.i c.args.parameters.now) c.args.arguments.now c.loop-i.i c.args.wanted c.if-i-arguments.true) ∙ c.loop-i.invariant
