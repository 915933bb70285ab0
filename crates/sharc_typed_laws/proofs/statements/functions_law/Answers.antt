use Rattle.sharc_typed_laws.proofs.Bodies.{functions_typed}
use Rattle.sharc_typed_laws.proofs.statements.functions_law.Goals as goal

pub returns : goal.returns
returns c = functions_typed (record {
  blocks = c.blocks_law.ensures;
  decisions = c.decisions_law.ensures;
  simples = c.simples_law.ensures;
  tests = c.tests_law.ensures;
  locals = c.locals_law.ensures;
  ending = c.ends_law.ensures;
  leaving = c.leaves_law.ensures;
  jumps = c.jumps_law.ensures;
  labels = c.labels_law.ensures;
  nothing_returns = c.returns_nothing_law.ensures;
  values_return = c.values_return_law.ensures;
})
