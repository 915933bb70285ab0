use Rattle.std.proofs.Common.{◌≡◌, ◌∷◌, length, sym, ◌∙◌, subst, arith}
use Rattle.sharc_word.specs.declared.step.TheConstants.{THREADS}
use Rattle.sharc_code.specs.Whole.{place_after}
use Rattle.sharc_schedule.specs.Schedule.{Stored}
use Rattle.sharc_seq.specs.Run.{enabled, IsChosen}
use Rattle.sharc_threads.specs.Ends.{Standing}
use Rattle.sharc_history.proofs.Choosing.{chose_next}
use Rattle.sharc_history.proofs.going.Going.go_on.Goals as goal
use Rattle.sharc_lemmas.proofs.Lists.{nothing}

pub list_enabled-requires : goal.list_enabled-requires
list_enabled-requires c = (c.args.code.now, c.args.shape.now, (c.requires.traced.turns, c.requires.traced.goes.stands))

pub returns-then-count-eq0-clause-over : goal.returns-then-count-eq0-clause-over
returns-then-count-eq0-clause-over c =
    let code = c.args.code.now in
    let s = c.args.shape.now in
    let t = c.requires.traced in
    let fits : s.threads ≡ THREADS = c.requires.fits.threads in
    let place : Standing = place_after code s t.turns in
    let all : c.list_enabled.new.among.items ≡ enabled code s c.args.limit place = c.in_ok-list_enabled.ensures code s t.turns fits t.goes.stands in
    λ e.
    let none : length c.list_enabled.new.among.items ≡ 0 = omega (arith, c.len-count.ensures, c.if-count-eq0.true) in
    record {
      traced = t;
      over = c.enabled_laws.ensures.none code s c.args.limit place fits t.goes.stands.seats.few (sym all ∙ nothing c.list_enabled.new.among.items none);
    }

pub turn-requires-clause-low : goal.turn-requires-clause-low
turn-requires-clause-low c =
    let one = chose_next c.enabled_laws.ensures c.args.code.now c.args.shape.now c.args.places.now c.args.limit c.args.self.now c.requires.traced c.list_enabled.new.among.items c.len.result c.len-count.result c.place_at-place.result c.index-number.result.now
    c.requires.fits.threads c.in_ok-list_enabled.ensures (omega (arith, c.len.ensures)) (omega (arith, c.len-count.ensures)) (c.place_at-place.ensures.below (omega (arith, c.if-count-eq0.false))) c.index-number.ensures c.place_at-place.ensures.is in
    let below = one.low in
    let fits = c.requires.fits.threads in
    omega (arith, below, fits)

pub turn-requires-clause-may : goal.turn-requires-clause-may
turn-requires-clause-may c =
    let t = c.requires.traced in
    let one = chose_next c.enabled_laws.ensures c.args.code.now c.args.shape.now c.args.places.now c.args.limit c.args.self.now t c.list_enabled.new.among.items c.len.result c.len-count.result c.place_at-place.result c.index-number.result.now
    c.requires.fits.threads c.in_ok-list_enabled.ensures (omega (arith, c.len.ensures)) (omega (arith, c.len-count.ensures)) (c.place_at-place.ensures.below (omega (arith, c.if-count-eq0.false))) c.index-number.ensures c.place_at-place.ensures.is in
    (t.turns, t.goes.stands, one.yes)

pub returns-clause-traced : goal.returns-clause-traced
returns-clause-traced c =
    let code = c.args.code.now in
    let s = c.args.shape.now in
    let t = c.requires.traced in
    let one = chose_next c.enabled_laws.ensures code s c.args.places.now c.args.limit c.args.self.now t c.list_enabled.new.among.items c.len.result c.len-count.result c.place_at-place.result c.index-number.result.now
    c.requires.fits.threads c.in_ok-list_enabled.ensures (omega (arith, c.len.ensures)) (omega (arith, c.len-count.ensures)) (c.place_at-place.ensures.below (omega (arith, c.if-count-eq0.false))) c.index-number.ensures c.place_at-place.ensures.is in
    let went = c.in_ok-turn.ensures.went t.turns t.goes in
    λ e. record {
      turns = went.one ∷ t.turns;
      goes = went.goes;
      chosen = (t.chosen, subst (IsChosen (Stored c.args.places.now) (length t.turns) (enabled code s c.args.limit (place_after code s t.turns))) (sym went.own) one.chosen);
    }
