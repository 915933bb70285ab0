use Rattle.sharc_graph.proofs.{Imports.{◌+◌, true, [], ◌∷◌, ◌++◌, ap, ◌∙◌, link_of}, MakeSteps.below_more}
use Rattle.sharc_graph.proofs.make.lead_down.Goals as goal

pub loop-depth-preserved : goal.loop-depth-preserved
loop-depth-preserved c = below_more c.args.links.now.items c.push.new.links.items c.args.first c.loop-depth.depth (c.in_ok-push.ensures ∙ ap (λ ls. ls ++ link_of (c.args.first + c.loop-depth.depth) (c.args.first + c.loop-depth.depth + 1) true ∷ []) c.loop-depth.invariant)
