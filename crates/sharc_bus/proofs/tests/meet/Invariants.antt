use Rattle.sharc_bus.proofs.Imports.{◌≡◌}
use Rattle.sharc_bus.proofs.tests.meet.Given as goal

abbrev pub invariant-loop : goal.invariant-loop
invariant-loop g l = record {
  count : g.P.Port.count l.port ≡ g.P.Port.count l.initial.port;
  name : g.P.Port.name l.port ≡ g.P.Port.name l.initial.port;
}
