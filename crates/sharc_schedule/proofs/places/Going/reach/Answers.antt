use Rattle.sharc_schedule.proofs.{Imports.{◌≡◌, true, List, [], ◌++◌, ◌∷◌, inr, sym, ◌∙◌, Turn, place_after, is_enabled, GoesAt}, Hurrying.{place_kept, walked_hurried}, Turning.{walked_none, walked_more, reached_step}}
use Rattle.sharc_schedule.proofs.places.Going.reach.Goals as goal

pub may_turn-may-requires-clause-walk : goal.may_turn-may-requires-clause-walk
may_turn-may-requires-clause-walk c = (c.args.code.now, c.args.shape.now, (c.requires.going.0, c.requires.going.1.stands))

pub returns-then-not-may : goal.returns-then-not-may
returns-then-not-may c = λ turns h. record {
  more = [];
  own = tt;
  goes = record { stands = h.stands; counts = h.counts; few = h.few; places_are = h.places_are };
  ends = inr (tt, sym (c.may_turn-may.ensures c.args.code.now c.args.shape.now turns h.stands) ∙ c.if-not-may.true);
}

pub place_of-place-requires-clause-walk : goal.place_of-place-requires-clause-walk
place_of-place-requires-clause-walk c = (c.args.code.now, c.args.shape.now, (c.requires.going.0, c.requires.going.1.stands))

pub turns-init : goal.turns-init
turns-init c = record {
  going = c.requires.going;
  walked = λ turns h. walked_none c.args.code.now c.args.shape.now c.args.limit c.args.t turns c.args.self.now h;
  on = λ turns h. sym (c.may_turn-may.ensures c.args.code.now c.args.shape.now turns h) ∙ c.if-not-may.false;
  place = λ turns h. c.place_of-place.ensures c.args.code.now c.args.shape.now turns c.requires.fits.threads h (sym (c.may_turn-may.ensures c.args.code.now c.args.shape.now turns h) ∙ c.if-not-may.false);
}

pub hurry_on-requires-clause-may : goal.hurry_on-requires-clause-may
hurry_on-requires-clause-may c =
    let at = c.turns.invariant.going in
    (at.0, at.1.stands, c.turns.invariant.on at.0 at.1.stands)

pub hurry_on-requires-clause-place : goal.hurry_on-requires-clause-place
hurry_on-requires-clause-place c = λ turns h. c.turns.invariant.place turns h

pub returns-then-not-on : goal.returns-then-not-on
returns-then-not-on c = λ turns h.
    let w = c.turns.invariant.walked turns h in
    let walk = walked_hurried c.run_laws.ensures c.thread_laws.ensures c.args.code.now c.args.shape.now c.args.limit c.args.t turns c.in_ok-on.on c.turns.self c.hurry_on.new.self w
    (c.in_ok-on.ensures.went (w.more ++ turns) record { stands = w.goes.stands; counts = w.goes.counts; few = w.goes.few; places_are = w.goes.places_are }) in
    let more = walk.walked in
    record {
      more = more.more;
      own = more.own;
      goes = record { stands = more.goes.stands; counts = more.goes.counts; few = more.goes.few; places_are = more.goes.places_are };
      ends = inr (more.quiet, sym walk.on_is ∙ c.if-not-on.true);
    }

pub turn-requires-clause-going : goal.turn-requires-clause-going
turn-requires-clause-going c =
    let at = c.turns.invariant.going in
    let h = c.in_ok-on.ensures.went at.0 record { stands = at.1.stands; counts = at.1.counts; few = at.1.few; places_are = at.1.places_are } in
    (h.more ++ at.0, h.goes)

pub turn-requires-clause-may : goal.turn-requires-clause-may
turn-requires-clause-may c =
    let at = c.turns.invariant.going in
    let h = c.in_ok-on.ensures.went at.0 record { stands = at.1.stands; counts = at.1.counts; few = at.1.few; places_are = at.1.places_are } in
    (h.more ++ at.0, h.goes.stands, sym h.on_is ∙ c.if-not-on.false)

pub turn-requires-clause-place : goal.turn-requires-clause-place
turn-requires-clause-place c = λ turns h.
    let code = c.args.code.now in
    let s = c.args.shape.now in
    let first : List Turn = c.requires.going.0 in
    let w = c.turns.invariant.walked first c.requires.going.1 in
    let walk = walked_hurried c.run_laws.ensures c.thread_laws.ensures code s c.args.limit c.args.t first c.in_ok-on.on c.turns.self c.hurry_on.new.self w
    (c.in_ok-on.ensures.went (w.more ++ first) record { stands = w.goes.stands; counts = w.goes.counts; few = w.goes.few; places_are = w.goes.places_are }) in
    let more = walk.walked in
    let was : is_enabled code s c.args.limit (place_after code s first) c.args.t ≡ true = sym (c.may_turn-may.ensures code s first c.requires.going.1.stands) ∙ c.if-not-may.false in
    let on : is_enabled code s c.args.limit (place_after code s (more.more ++ first)) c.args.t ≡ true = sym walk.on_is ∙ c.if-not-on.false in
    place_kept c.run_laws.ensures c.thread_laws.ensures code s c.args.limit c.args.t c.table_laws.ensures first c.place_of-place.result was
    (c.place_of-place.ensures code s first c.requires.fits.threads c.requires.going.1.stands was) c.hurry_on.new.self more on turns h

pub returns-then-told : goal.returns-then-told
returns-then-told c = λ turns h.
    let w = c.turns.invariant.walked turns h in
    let walk = walked_hurried c.run_laws.ensures c.thread_laws.ensures c.args.code.now c.args.shape.now c.args.limit c.args.t turns c.in_ok-on.on c.turns.self c.hurry_on.new.self w
    (c.in_ok-on.ensures.went (w.more ++ turns) record { stands = w.goes.stands; counts = w.goes.counts; few = w.goes.few; places_are = w.goes.places_are }) in
    let more = walk.walked in
    reached_step c.args.code.now c.args.shape.now c.args.limit c.args.t turns c.in_ok-told.told c.hurry_on.new.self c.turn.new.self more
    (c.in_ok-told.ensures.went (more.more ++ turns) record { stands = more.goes.stands; counts = more.goes.counts; few = more.goes.few; places_are = more.goes.places_are }) c.if-told.true

pub may_turn-still-requires-clause-walk : goal.may_turn-still-requires-clause-walk
may_turn-still-requires-clause-walk c =
    let at = c.turns.invariant.going in
    let h = c.in_ok-on.ensures.went at.0 record { stands = at.1.stands; counts = at.1.counts; few = at.1.few; places_are = at.1.places_are } in
    let one = c.in_ok-told.ensures.went (h.more ++ at.0) record { stands = h.goes.stands; counts = h.goes.counts; few = h.goes.few; places_are = h.goes.places_are } in
    (c.args.code.now, c.args.shape.now, (one.one ∷ (h.more ++ at.0), one.goes.stands))

pub returns-then-not-still : goal.returns-then-not-still
returns-then-not-still c = λ turns h.
    let w = c.turns.invariant.walked turns h in
    let walk = walked_hurried c.run_laws.ensures c.thread_laws.ensures c.args.code.now c.args.shape.now c.args.limit c.args.t turns c.in_ok-on.on c.turns.self c.hurry_on.new.self w
    (c.in_ok-on.ensures.went (w.more ++ turns) record { stands = w.goes.stands; counts = w.goes.counts; few = w.goes.few; places_are = w.goes.places_are }) in
    let mid = walk.walked in
    let more = walked_more c.args.code.now c.args.shape.now c.args.limit c.args.t turns c.in_ok-told.told c.hurry_on.new.self c.turn.new.self mid
    (c.in_ok-told.ensures.went (mid.more ++ turns) record { stands = mid.goes.stands; counts = mid.goes.counts; few = mid.goes.few; places_are = mid.goes.places_are }) c.if-told.false in
    record {
      more = more.more;
      own = more.own;
      goes = record { stands = more.goes.stands; counts = more.goes.counts; few = more.goes.few; places_are = more.goes.places_are };
      ends = inr (more.quiet, sym (c.may_turn-still.ensures c.args.code.now c.args.shape.now (more.more ++ turns) more.goes.stands) ∙ c.if-not-still.true);
    }

pub turns-preserved : goal.turns-preserved
turns-preserved c =
    let code = c.args.code.now in
    let s = c.args.shape.now in
    let at = c.turns.invariant.going in
    let h = c.in_ok-on.ensures.went at.0 record { stands = at.1.stands; counts = at.1.counts; few = at.1.few; places_are = at.1.places_are } in
    let one = c.in_ok-told.ensures.went (h.more ++ at.0) record { stands = h.goes.stands; counts = h.goes.counts; few = h.goes.few; places_are = h.goes.places_are } in
    let walked = λ (turns : List Turn) (g : GoesAt code s c.args.limit turns c.args.self.now).
    let w = c.turns.invariant.walked turns g in
    let walk = walked_hurried c.run_laws.ensures c.thread_laws.ensures code s c.args.limit c.args.t turns c.in_ok-on.on c.turns.self c.hurry_on.new.self w
    (c.in_ok-on.ensures.went (w.more ++ turns) record { stands = w.goes.stands; counts = w.goes.counts; few = w.goes.few; places_are = w.goes.places_are }) in
    let mid = walk.walked in
    walked_more code s c.args.limit c.args.t turns c.in_ok-told.told c.hurry_on.new.self c.turn.new.self mid
    (c.in_ok-told.ensures.went (mid.more ++ turns) record { stands = mid.goes.stands; counts = mid.goes.counts; few = mid.goes.few; places_are = mid.goes.places_are }) c.if-told.false in
    record {
      going = (one.one ∷ (h.more ++ at.0), one.goes);
      walked = walked;
      on = λ turns h. sym (c.may_turn-still.ensures code s turns h) ∙ c.if-not-still.false;
      place = λ turns g.
          let first : List Turn = c.requires.going.0 in
          let more = walked first c.requires.going.1 in
          let was : is_enabled code s c.args.limit (place_after code s first) c.args.t ≡ true = sym (c.may_turn-may.ensures code s first c.requires.going.1.stands) ∙ c.if-not-may.false in
          let still : is_enabled code s c.args.limit (place_after code s (more.more ++ first)) c.args.t ≡ true = sym (c.may_turn-still.ensures code s (more.more ++ first) more.goes.stands) ∙ c.if-not-still.false in
          place_kept c.run_laws.ensures c.thread_laws.ensures code s c.args.limit c.args.t c.table_laws.ensures first c.place_of-place.result was
          (c.place_of-place.ensures code s first c.requires.fits.threads c.requires.going.1.stands was) c.turn.new.self more still turns g;
    }
