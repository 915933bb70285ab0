use Rattle.sharc_suggest.proofs.{Imports.{◌+◌, ◌≤◌, length, arith, view_row}, RowLemmas.differ_is}
use Rattle.sharc_suggest.proofs.repair.differ_first.Goals as goal

pub returns-else-same_rows : goal.returns-else-same_rows
returns-else-same_rows c =
    let m = c.args.program.now in
    let whole = c.position_count-all.ensures.whole.modes in
    let expected = view_row c.args.expected in
    let found = view_row c.args.found in
    let first = c.requires.expected in
    let second = c.requires.found in
    let ends_expected : expected.first + expected.count ≤ length m.modes = omega (arith, first, whole) in
    let ends_found : found.first + found.count ≤ length m.modes = omega (arith, second, whole) in
    differ_is c.row_laws.ensures m expected found (view_row c.deeper.result) (view_row c.deeper-else-same_rows.result) c.same_rows.result c.same_rows-else-same_rows.result ends_expected ends_found c.deeper.ensures
    c.deeper-else-same_rows.ensures c.same_rows.ensures c.if-same_rows.false c.same_rows-else-same_rows.ensures
