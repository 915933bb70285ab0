use Rattle.sharc_infer.proofs.{Imports.{◌<◌, length, get_or, ap, ◌∙◌, subst, arith, entities_in}, LinkLemmas.numbered_within}
use Rattle.sharc_infer.proofs.links.all_levels.Goals as goal

pub add_levels-requires : goal.add_levels-requires
add_levels-requires c =
    let list = entities_in c.args.typed.now.program.items in
    let i = c.loop-numbered.numbered-index in
    let n = c.numbered-item.result in
    let are = c.entities-numbered-items.ensures in
    let inside = subst (λ l. i < length l) are c.loop-numbered-test.true in
    let within = numbered_within 0 list i n inside (c.numbered-item.is ∙ ap (λ l. get_or l i n) are) in
    let all = c.position_count-all.ensures in
    let few = c.position_count-all.type_inv in
    omega arith
