use Rattle.sharc_schedule.proofs.{Imports.{◌≡◌, true, false, List, [], ◌++◌, sym, ◌∙◌, arith, Turn, place_after, is_enabled, GoesAt, HurriedOn}, Hurrying.{hurried_on, hurried_none, place_still}, Turning.enabled_too}
use Rattle.sharc_schedule.proofs.places.Going.hurry_on.Goals as goal

pub turns-init : goal.turns-init
turns-init c =
    let code = c.args.code.now in
    let s = c.args.shape.now in
    let m = c.requires.may in
    record {
      going = c.requires.going;
      went = λ turns h. record {
        more = [];
        quiet = tt;
        goes = h;
        on_is = sym (enabled_too c.table_laws.ensures code s c.args.limit m.0 turns c.args.self.now.walk c.args.t m.1 h.stands m.2);
      };
      on = λ turns h. enabled_too c.table_laws.ensures code s c.args.limit m.0 turns c.args.self.now.walk c.args.t m.1 h m.2;
      place = λ turns h. c.requires.place turns h;
      left = omega arith;
    }

pub hurry-requires-clause-may : goal.hurry-requires-clause-may
hurry-requires-clause-may c =
    let at = c.turns.invariant.going in
    (at.0, at.1.stands, c.turns.invariant.on at.0 at.1.stands)

pub hurry-requires-clause-place : goal.hurry-requires-clause-place
hurry-requires-clause-place c = λ turns h. c.turns.invariant.place turns h

pub returns-then-made-eq0-clause-went : goal.returns-then-made-eq0-clause-went
returns-then-made-eq0-clause-went c = λ turns h.
    let w = c.turns.invariant.went turns h in
    let all = hurried_none c.run_laws.ensures c.thread_laws.ensures c.args.code.now c.args.shape.now c.args.limit c.args.t turns c.in_ok-made.made true c.turns.self c.hurry.new.self w
    (c.in_ok-made.ensures.went (w.more ++ turns) w.goes) (omega (arith, c.if-made-eq0.true)) in
    record {
      more = all.more;
      quiet = all.quiet;
      goes = record { stands = all.goes.stands; counts = all.goes.counts; few = all.goes.few; places_are = all.goes.places_are };
      on_is = all.on_is;
    }

pub may_turn-on-requires-clause-walk : goal.may_turn-on-requires-clause-walk
may_turn-on-requires-clause-walk c =
    let at = c.turns.invariant.going in
    let h = c.in_ok-made.ensures.went at.0 at.1 in
    (c.args.code.now, c.args.shape.now, (h.more ++ at.0, h.goes.stands))

pub returns-then-not-on-clause-went : goal.returns-then-not-on-clause-went
returns-then-not-on-clause-went c = λ turns h.
    let w = c.turns.invariant.went turns h in
    let more = c.in_ok-made.ensures.went (w.more ++ turns) w.goes in
    let all = hurried_on c.run_laws.ensures c.thread_laws.ensures c.args.code.now c.args.shape.now c.args.limit c.args.t turns c.in_ok-made.made true false c.turns.self c.hurry.new.self w
    more (sym c.if-not-on.true ∙ c.may_turn-on.ensures c.args.code.now c.args.shape.now (more.more ++ (w.more ++ turns)) more.goes.stands) in
    record {
      more = all.more;
      quiet = all.quiet;
      goes = record { stands = all.goes.stands; counts = all.goes.counts; few = all.goes.few; places_are = all.goes.places_are };
      on_is = all.on_is;
    }

pub turns-preserved : goal.turns-preserved
turns-preserved c =
    let code = c.args.code.now in
    let s = c.args.shape.now in
    let at = c.turns.invariant.going in
    let h = c.in_ok-made.ensures.went at.0 at.1 in
    let went = λ (turns : List Turn) (g : GoesAt code s c.args.limit turns c.args.self.now).
    let w = c.turns.invariant.went turns g in
    let more = c.in_ok-made.ensures.went (w.more ++ turns) w.goes in
    hurried_on c.run_laws.ensures c.thread_laws.ensures code s c.args.limit c.args.t turns c.in_ok-made.made true true c.turns.self c.hurry.new.self w
    more (sym c.if-not-on.false ∙ c.may_turn-on.ensures code s (more.more ++ (w.more ++ turns)) more.goes.stands) in
    let first : List Turn = c.requires.going.0 in
    let m = c.requires.may in
    let was : is_enabled code s c.args.limit (place_after code s first) c.args.t ≡ true = enabled_too c.table_laws.ensures code s c.args.limit m.0 first c.args.self.now.walk c.args.t m.1 c.requires.going.1.stands m.2 in
    let all : HurriedOn code s c.args.limit c.args.t first true c.hurry.new.self = went first c.requires.going.1 in
    record {
      going = (h.more ++ at.0, h.goes);
      went = went;
      on = λ turns stands. sym (c.may_turn-on.ensures code s turns stands) ∙ c.if-not-on.false;
      place = λ turns stands.
          place_still c.run_laws.ensures c.thread_laws.ensures code s c.args.limit c.args.t c.table_laws.ensures first c.args.place was
          (c.requires.place first c.requires.going.1.stands) c.hurry.new.self all turns stands;
      left = omega (arith, c.in_ok-made.ensures.left, c.turns.invariant.left);
    }
