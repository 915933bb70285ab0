use Rattle.std.proofs.Common.{take}
use Rattle.std.specs.List.{All}
use Rattle.sharc_graph.specs.Paths.{IsWithin}
use Rattle.sharc_machine_tests.proofs.leaf.flow.are_within.Given as goal

abbrev pub invariant-loop-link : goal.invariant-loop-link
invariant-loop-link l = All (λ link. IsWithin l.places link.edge) (take l.link-index l.links)
