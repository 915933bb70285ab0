use Rattle.std.proofs.{Common.{sym, arith}, lemmas.List.take_all, lemmas.List.Elements.{All-more, All-same}}
use Rattle.sharc_graph.specs.Paths.{edge_of, IsWithin}
use Rattle.sharc_machine_tests.proofs.leaf.graph.are_within.Goals as goal

pub loop-edge-preserved : goal.loop-edge-preserved
loop-edge-preserved c = All-more (IsWithin c.args.nodes) c.args.edges.now c.loop-edge.edge-index (edge_of 0 0) c.loop-edge-test.true c.loop-edge.invariant (omega arith, omega arith)

pub returns : goal.returns
returns c = λ _. All-same (IsWithin c.args.nodes) c.args.edges.now _ (sym (take_all c.loop-edge.edge-index c.args.edges.now c.loop-edge-test.false)) c.loop-edge.invariant
