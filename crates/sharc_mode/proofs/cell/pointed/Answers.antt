use Rattle.sharc_mode.proofs.{Imports.{◌<◌, ap, sym, ◌∙◌, arith, pointed, read, view_reading, view_row, view_rows, view_sharing}, CellLemmas.first_is}
use Rattle.sharc_mode.proofs.cell.pointed.Goals as goal

pub returns-else-row-eq0 : goal.returns-else-row-eq0
returns-else-row-eq0 c =
    let some : 0 < c.in-Some.row.count = omega arith in
    c.read.ensures
    ∙ ap (λ r. read r (view_reading c.in-Some.row.reading) (view_sharing c.sharing.result)) c.typed.ensures
    ∙ ap (λ s. read c.args.program.now.typed (view_reading c.in-Some.row.reading) s) c.sharing.ensures
    ∙ sym (first_is c.args.program.now (view_row c.in-Some.row) some)
    ∙ ap (λ x. pointed c.args.program.now (view_rows x)) (sym c.in-Some.is)
