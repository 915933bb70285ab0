use Rattle.sharc_graph.proofs.Imports.{◌≡◌, ◌<◌, true, false, flow_of, AreRanks, unranked}
use Rattle.sharc_graph.proofs.rounds.go_round.Given as goal

abbrev pub invariant-loop-link : goal.invariant-loop-link
invariant-loop-link l = record {
  ranks : AreRanks (flow_of l.places l.links) l.ranks.items l.round l.link-index;
  more : l.more ≡ true → unranked l.ranks.items < unranked l.fn.ranks.items;
  same : l.more ≡ false → l.ranks.items ≡ l.fn.ranks.items;
}
