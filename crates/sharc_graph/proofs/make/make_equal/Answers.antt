use Rattle.sharc_graph.proofs.{Imports.{◌+◌, false, [], ◌∷◌, ◌++◌, ap, ◌∙◌, link_of}, MakeSteps.equal_more}
use Rattle.sharc_graph.proofs.make.make_equal.Goals as goal

pub loop-depth-preserved : goal.loop-depth-preserved
loop-depth-preserved c =
    let first = c.args.first in
    let second = c.args.second in
    let depth = c.loop-depth.depth in
    equal_more c.args.links.now.items c.push-in-loop-depth.new.links.items first second depth
    (c.in_ok-push-2.ensures ∙ ap (λ ls. ls ++ link_of (second + depth) (first + depth) false ∷ []) (c.in_ok-push.ensures ∙ ap (λ ls. ls ++ link_of (first + depth) (second + depth) false ∷ []) c.loop-depth.invariant))
