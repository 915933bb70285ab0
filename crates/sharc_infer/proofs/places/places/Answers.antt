use Rattle.sharc_infer.proofs.{Imports.{None, ap, ◌∙◌, get_or_default, place_of, settled_of, root_of}, PositionLemmas.{size_more, each_more}}
use Rattle.sharc_graph.specs.declared.place.PositionKind.TheVariants.{Private}
use Rattle.sharc_infer.proofs.places.places.Goals as goal

pub loop-position-preserved : goal.loop-position-preserved
loop-position-preserved c =
    let settled = c.args.settled.now in
    let roots = c.args.roots.now in
    let n = c.loop-position.position in
    let had = c.loop-position.invariant in
    let item = c.index-settled-position.is ∙ get_or_default settled n c.index-settled-position.result None c.loop-position-test.true in
    let at = c.place_of.ensures ∙ ap (λ s. place_of s (root_of roots n)) item in
    record {
      size = size_more c.loop-position.places.items c.push.new.self.items n c.place_of.result had.size c.in_ok-push.ensures.items;
      each = each_more (λ p. place_of (settled_of settled p) (root_of roots p)) Private c.loop-position.places.items c.push.new.self.items n c.place_of.result had.size c.in_ok-push.ensures.items at had.each;
    }
