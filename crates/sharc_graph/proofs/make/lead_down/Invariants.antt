use Rattle.sharc_graph.proofs.Imports.{◌≡◌, ◌++◌, below_links}
use Rattle.sharc_graph.proofs.make.lead_down.Given as goal

abbrev pub invariant-loop-depth : goal.invariant-loop-depth
invariant-loop-depth l = l.links.items ≡ l.fn.links.items ++ below_links l.first l.depth
