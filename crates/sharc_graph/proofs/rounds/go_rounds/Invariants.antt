use Rattle.sharc_graph.proofs.Imports.{◌+◌, ◌≤◌, length, flow_of, AreRanks, AreUpTo, unranked}
use Rattle.sharc_graph.proofs.rounds.go_rounds.Given as goal

abbrev pub invariant-loop-round : goal.invariant-loop-round
invariant-loop-round l = record {
  ranks : AreRanks (flow_of l.places l.links) l.ranks.items l.round 0;
  low : AreUpTo l.ranks.items l.round;
  few : l.round + unranked l.ranks.items ≤ length l.places;
}

abbrev pub decreases-loop-round : goal.decreases-loop-round
decreases-loop-round l = unranked l.ranks.items
