use Rattle.sharc_graph.proofs.Imports.{flow_of, IsLowest, IsSome}
use Rattle.sharc_graph.proofs.rounds.lowest.Given as goal

abbrev pub invariant-loop-link : goal.invariant-loop-link
invariant-loop-link l = record {
  lowest : IsLowest (flow_of l.places l.links) l.ranks l.link-index l.to l.below l.lowest;
  some : IsSome (flow_of l.places l.links) l.ranks l.link-index l.to l.below l.lowest 4294967295;
}
