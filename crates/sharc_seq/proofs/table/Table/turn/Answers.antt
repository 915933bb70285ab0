use Rattle.sharc_seq.proofs.{Imports.{◌≡◌, ℕ, ◌++◌, ◌∷◌, [], List, length, sym, ap, ◌∙◌, subst, arith, THREADS, place_after, Standing, enabled, IsChosen, nothing}, Choosing.none_enabled, Grown.{chose, as_many, one_later}}
use Rattle.sharc_seq.proofs.table.Table.turn.Goals as goal

pub list_enabled-requires : goal.list_enabled-requires
list_enabled-requires g c = (c.args.code.now, c.args.shape.now, (c.requires.table.turns, c.requires.table.stands))

pub returns-then-count-eq0-clause-over : goal.returns-then-count-eq0-clause-over
returns-then-count-eq0-clause-over g c =
    let code = c.args.code.now in
    let s = c.args.shape.now in
    let t = c.requires.table in
    let fits : s.threads ≡ THREADS = c.requires.fits.threads in
    let place : Standing = place_after code s t.turns in
    let all : c.list_enabled.new.among.items ≡ enabled code s c.args.limit place = c.in_ok-list_enabled.ensures code s t.turns fits t.stands in
    λ e.
    let none : length c.list_enabled.new.among.items ≡ 0 = omega (arith, c.len-count.ensures, c.if-count-eq0.true) in
    record {
      table_is = t;
      over = none_enabled code s c.args.limit place fits t.stands.seats.few (sym all ∙ nothing c.list_enabled.new.among.items none);
    }

pub turn-requires-clause-may : goal.turn-requires-clause-may
turn-requires-clause-may g c =
    let t = c.requires.table in
    let one = chose (goal.F-post g c.args.chooser.now.f) c.args.code.now c.args.shape.now c.args.limit (place_after c.args.code.now c.args.shape.now t.turns) (length c.args.self.now.schedule.items) c.list_enabled.new.among.items c.place-place.result c.index-number.result.now c.len.result c.len-count.result
    (c.in_ok-list_enabled.ensures c.args.code.now c.args.shape.now t.turns c.requires.fits.threads t.stands) (omega (arith, c.len.ensures)) (omega (arith, c.len-count.ensures)) (omega (arith, c.place-place.ensures.below)) c.index-number.ensures c.place-place.ensures.answered in
    (t.turns, t.stands, one.yes)

pub returns-clause-table : goal.returns-clause-table
returns-clause-table g c =
    let t = c.requires.table in
    let place : Standing = place_after c.args.code.now c.args.shape.now t.turns in
    let schedule : List ℕ = c.args.self.now.schedule.items in
    let one = chose (goal.F-post g c.args.chooser.now.f) c.args.code.now c.args.shape.now c.args.limit place (length schedule) c.list_enabled.new.among.items c.place-place.result c.index-number.result.now c.len.result c.len-count.result
    (c.in_ok-list_enabled.ensures c.args.code.now c.args.shape.now t.turns c.requires.fits.threads t.stands) (omega (arith, c.len.ensures)) (omega (arith, c.len-count.ensures)) (omega (arith, c.place-place.ensures.below)) c.index-number.ensures c.place-place.ensures.answered in
    let went = c.in_ok-turn.ensures.went t.turns t.stands in
    λ e. record {
      turns = went.one ∷ t.turns;
      stands = went.stands;
      chosen = (
        t.chosen,
        subst (λ n. IsChosen (goal.F-post g c.args.chooser.now.f) n (enabled c.args.code.now c.args.shape.now c.args.limit place) went.one.thread) (as_many schedule t.turns t.schedule)
            (subst (IsChosen (goal.F-post g c.args.chooser.now.f) (length schedule) (enabled c.args.code.now c.args.shape.now c.args.limit place)) (sym went.own) one.chosen),
      );
      schedule = one_later schedule c.push.new.self.items t.turns went.one t.schedule (c.in_ok-push.ensures.items ∙ ap (λ (k : ℕ). schedule ++ k ∷ []) (sym went.own));
    }

pub returns-clause-less : goal.returns-clause-less
returns-clause-less g c = λ e. c.in_ok-turn.ensures.less
