use Rattle.sharc_graph.proofs.Imports.{◌≡◌, take, kept_edges}
use Rattle.sharc_graph.proofs.assignment.edges.Given as goal

abbrev pub invariant-loop-link : goal.invariant-loop-link
invariant-loop-link l = l.edges.items ≡ kept_edges l.places (take l.link-index l.links)
