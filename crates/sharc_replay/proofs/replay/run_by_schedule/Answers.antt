use Rattle.std.proofs.{Common.{◌∙◌}, lemmas.Result.IfOk-weaker}
use Rattle.sharc_replay.proofs.replay.run_by_schedule.Goals as goal

pub returns : goal.returns
returns c =
    let s = c.args.shape.now in
    let is = c.in_ok-run.ensures in
    IfOk-weaker c.told.result _ _
    (λ ran ends. record { turns = is.turns; checked = is.checked; chosen = is.chosen; over = is.over; ends = ends })
    (c.told.ensures.ends s c.args.limit is.turns c.requires.fits record { over = is.over; words_are = c.deref.ensures.value ∙ is.words; started = rw c.deref-2.ensures.value is.threads; end_is = is.end_is })
