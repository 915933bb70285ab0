use Rattle.std.proofs.Common.{take}
use Rattle.std.specs.List.{All}
use Rattle.sharc_graph.specs.Paths.{IsWithin}
use Rattle.sharc_machine_tests.proofs.leaf.graph.are_within.Given as goal

abbrev pub invariant-loop-edge : goal.invariant-loop-edge
invariant-loop-edge l = All (IsWithin l.nodes) (take l.edge-index l.edges)
