use Rattle.sharc_seq.proofs.Imports.{[], ◌∙◌, IfOk-weaker, place_after, Standing, IsSeqRun, IsOver, Ends}
use Rattle.sharc_seq.proofs.run.run_seq.Goals as goal

pub finish-requires : goal.finish-requires
finish-requires g c = λ t.
    let code = c.args.code.now in
    let s = c.args.shape.now in
    let over : IsOver (goal.F-post g c.args.chooser.now.f) code s c.args.limit c.turn.new.self = c.in_ok-turn.ensures.over c.if-not-branch.true in
    let place : Standing = place_after code s over.table_is.turns in
    c.table_laws.ensures.numbers code s place.threads place.made place.started c.turn.new.self.walk.threads.seats.items over.table_is.stands.seats t

pub returns-then-not-branch : goal.returns-then-not-branch
returns-then-not-branch g c =
    let code = c.args.code.now in
    let s = c.args.shape.now in
    let over : IsOver (goal.F-post g c.args.chooser.now.f) code s c.args.limit c.turn.new.self = c.in_ok-turn.ensures.over c.if-not-branch.true in
    let table = over.table_is in
    let place : Standing = place_after code s table.turns in
    IfOk-weaker c.finish.result _ (IsSeqRun (goal.F-post g c.args.chooser.now.f) code s c.args.limit)
    (λ run h.
    let ends : Ends code s place c.turn.new.self.schedule.items run = h code s place c.requires.fits.threads record { words_are = table.stands.words; are = table.stands.seats } in
    record {
      turns = table.turns;
      checked = (c.run_laws.ensures.checked code s table.turns).1 table.stands.run;
      chosen = table.chosen;
      over = over.over;
      schedule = ends.schedule_is ∙ table.schedule;
      words = ends.words;
      threads = ends.threads;
      end_is = ends.end_is;
    })
    c.finish.ensures

pub turns-init : goal.turns-init
turns-init g c = record { turns = []; stands = c.in_ok-table.ensures.0; chosen = tt; schedule = c.in_ok-table.ensures.1 }
