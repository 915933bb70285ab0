use Rattle.sharc_history.specs.Going.{IsOver}
use Rattle.sharc_history.proofs.history.history_by_schedule.Goals as goal

pub lasts-requires : goal.lasts-requires
lasts-requires c =
    let over : IsOver c.args.code.now c.args.shape.now c.args.places.now c.args.limit c.go_on.new.self = c.in_ok-go_on.ensures.over c.if-not-branch.true in
    (c.args.shape.now, (over.traced.turns, over.traced.goes.stands))

pub returns-then-not-branch : goal.returns-then-not-branch
returns-then-not-branch c =
    let code = c.args.code.now in
    let s = c.args.shape.now in
    let over : IsOver code s c.args.places.now c.args.limit c.go_on.new.self = c.in_ok-go_on.ensures.over c.if-not-branch.true in
    let traced = over.traced in
    record {
      turns = traced.turns;
      checked = (c.run_laws.ensures.checked code s traced.turns).1 traced.goes.stands.run;
      chosen = traced.chosen;
      over = over.over;
      account = record {
        events = traced.goes.events;
        origins = traced.goes.origins;
        references = traced.goes.references;
        lasts = c.in_ok-lasts.ensures s traced.turns traced.goes.stands;
      };
    }
