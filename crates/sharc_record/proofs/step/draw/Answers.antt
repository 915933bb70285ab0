use Rattle.sharc_record.proofs.{Imports.{◌<◌, arith}, Drawing.draw_allowed}
use Rattle.sharc_record.proofs.step.draw.Goals as goal

pub fetch_add-requires : goal.fetch_add-requires
fetch_add-requires c =
    let w = c.args.words.now in
    let seat = c.args.seat.now in
    let some : 0 < w.table_id.words = omega (arith, c.requires.table.words_are) in
    (c.requires.own, some, draw_allowed w.key.journal.value w.key.ports w.table_id.slots seat.id seat.me c.requires.idle)
