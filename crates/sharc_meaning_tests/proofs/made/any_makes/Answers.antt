use Rattle.sharc_meaning_tests.proofs.{Imports.{◌≡◌, ap, sym, ◌∙◌, view_items, Program, items_make}, Making.items_are}
use Rattle.sharc_meaning_tests.proofs.made.any_makes.Goals as goal

pub returns : goal.returns
returns c =
    let r = c.args.typed.now in
    c.items_make.ensures
    ∙ ap (λ l. items_make r c.args.token c.args.cell (view_items l)) c.as_slice.ensures
    ∙ ap (λ (p : Program). items_make r c.args.token c.args.cell p.items) c.program.ensures.program
    ∙ sym (items_are r c.args.token c.args.cell r.program.items)
