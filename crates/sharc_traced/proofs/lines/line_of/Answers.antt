use Rattle.std.proofs.Common.{arith}
use Rattle.sharc_traced.proofs.lines.line_of.Goals as goal

pub returns-in-Some : goal.returns-in-Some
returns-in-Some c = record { thread = c.in_range-thread.ensures.is; small = omega (arith, c.in_range-thread.ensures.is, c.in_range-thread.ensures.small); act = rw c.in-Some.is at c.in_ok-act.ensures }
