use Rattle.sharc_infer.proofs.{Imports.{◌≡◌, ◌+◌, ◌++◌, map, drop, ap, sym, ◌∙◌, append_assoc, flat_map, Program, view_item, item_links}, LinkLemmas.from_mapped}
use Rattle.sharc_infer.proofs.links.links.Goals as goal

pub loop-item-preserved : goal.loop-item-preserved
loop-item-preserved c =
    let r = c.args.typed.now in
    let all = r.program.items in
    let old = c.loop-item.links.items in
    let i = c.loop-item.item-index in
    let x = c.item-item.result in
    let items = c.as_slice-item-items.result.now in
    let are : map view_item items ≡ all = ap (map view_item) c.as_slice-item-items.ensures ∙ ap (λ (p : Program). p.items) c.program.ensures.program in
    let place = from_mapped view_item items all i x are c.loop-item-test.true c.item-item.is in
    ap (λ l. l ++ flat_map (item_links r) (drop (i + 1) all)) c.in_ok-add_item.ensures
    ∙ append_assoc old (item_links r (view_item x)) (flat_map (item_links r) (drop (i + 1) all))
    ∙ ap (λ l. old ++ flat_map (item_links r) l) (sym place)
    ∙ c.loop-item.invariant
