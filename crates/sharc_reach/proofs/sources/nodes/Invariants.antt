use Rattle.sharc_reach.proofs.Imports.{◌≡◌, drop, fold, replicate, quiet_node, marked_by}
use Rattle.sharc_reach.proofs.sources.nodes.Given as goal

abbrev pub invariant-loop-mention : goal.invariant-loop-mention
invariant-loop-mention l = fold (marked_by l.typed) l.nodes.items (drop l.mention-index l.mentions) ≡ fold (marked_by l.typed) (replicate l.count quiet_node) l.mentions
