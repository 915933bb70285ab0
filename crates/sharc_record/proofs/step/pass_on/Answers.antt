use Rattle.sharc_record.proofs.{Imports.{◌<◌, arith, ◌∙◌, ap, passed}, Passing.{pass_allowed, passed_is}}
use Rattle.sharc_record.proofs.step.pass_on.Goals as goal

pub fetch_add-requires : goal.fetch_add-requires
fetch_add-requires c =
    let w = c.args.words.now in
    let seat = c.args.seat.now in
    let some : 1 < w.table_id.words = omega (arith, c.requires.table.words_are) in
    (c.requires.own, some, pass_allowed c.history_laws.ensures w.key.journal.value w.key.ports w.table_id.slots seat.id seat.me c.requires.made)

pub returns-clause-passed : goal.returns-clause-passed
returns-clause-passed c = λ part old now step found is made. c.fetch_add.ensures.2 ∙ (ap passed is ∙ passed_is part old now step found made)
