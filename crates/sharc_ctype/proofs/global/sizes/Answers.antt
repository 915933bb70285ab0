use Rattle.sharc_ctype.proofs.Imports.{◌+◌, ap, sym, ◌∙◌, drop, fold, refl, fold-append, view_item, view_items, noted, item_cells, item_size_notes, sizes_notes, first_of_rest}
use Rattle.sharc_ctype.proofs.global.sizes.Goals as goal

pub loop-item-init : goal.loop-item-init
loop-item-init c = (0, refl, refl)

pub loop-item-preserved : goal.loop-item-preserved
loop-item-preserved c =
    let structs = c.args.structs.now in
    let list = c.args.items.now in
    let i = c.loop-item.item-index in
    let e = c.item-item.result in
    let found = c.loop-item.found in
    let before = c.loop-item.invariant.0 in
    let cells_are = c.loop-item.invariant.1 in
    let here = item_size_notes structs before (view_item e) in
    let rest = sizes_notes structs (before + item_cells structs (view_item e)) (view_items (drop (i + 1) list)) in (
      before + item_cells structs (view_item e),
      c.item_size-cells.ensures.cells before cells_are,
      ap (λ f. fold noted f rest) (c.item_size-cells.ensures.found before cells_are)
          ∙ sym (fold-append noted found here rest)
          ∙ ap (λ l. fold noted found (sizes_notes structs before (view_items l))) (sym (first_of_rest list i e c.loop-item-test.true c.item-item.is))
          ∙ c.loop-item.invariant.2,
    )
