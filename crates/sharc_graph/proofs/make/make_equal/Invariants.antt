use Rattle.sharc_graph.proofs.Imports.{◌≡◌, ◌++◌, equal_links}
use Rattle.sharc_graph.proofs.make.make_equal.Given as goal

abbrev pub invariant-loop-depth : goal.invariant-loop-depth
invariant-loop-depth l = l.links.items ≡ l.fn.links.items ++ equal_links l.first l.second l.depth
