use Rattle.sharc_parse.proofs.{Imports.{◌-◌, arith}, PlainSteps.return_placed}
use Rattle.sharc_parse.proofs.plain.rest_of_return.Goals as goal

pub returns-clause-placed : goal.returns-clause-placed
returns-clause-placed c =
    return_placed c.return_of.result c.args.tokens.now (c.args.at.now - 1) c.args.at.now c.tail.new.at c.span.result c.in_ok-given.given c.return_of.ensures (omega (arith, c.requires.behind)) c.span.ensures c.in_ok-given.ensures.placed
