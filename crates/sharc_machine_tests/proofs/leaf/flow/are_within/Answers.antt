use Rattle.std.proofs.{Common.{sym, arith, false}, lemmas.List.take_all, lemmas.List.Elements.{All-more, All-same}}
use Rattle.sharc_graph.specs.{Paths.IsWithin, Flow.link_of}
use Rattle.sharc_machine_tests.proofs.leaf.flow.are_within.Goals as goal

pub loop-link-preserved : goal.loop-link-preserved
loop-link-preserved c = All-more (λ link. IsWithin c.args.places link.edge) c.args.links.now c.loop-link.link-index (link_of 0 0 false) c.loop-link-test.true c.loop-link.invariant (omega arith, omega arith)

pub returns : goal.returns
returns c = λ _. All-same (λ link. IsWithin c.args.places link.edge) c.args.links.now _ (sym (take_all c.loop-link.link-index c.args.links.now c.loop-link-test.false)) c.loop-link.invariant
