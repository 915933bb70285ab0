use Rattle.sharc_cpu.proofs.Held.{is_held_is}
use Rattle.sharc_cpu.proofs.checks.is_held.Goals as goal

pub returns-clause-is : goal.returns-clause-is
returns-clause-is c = is_held_is c.args.parts.now.held c.args.mutex c.holds.result c.holds.ensures.held
