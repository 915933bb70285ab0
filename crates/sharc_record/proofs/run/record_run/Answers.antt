use Rattle.sharc_record.proofs.Imports.{◌≡◌, ℕ, List, None, true, false, get_or, subst, place_after, Standing, may_turn_at}
use Rattle.sharc_record.proofs.run.record_run.Goals as goal

pub any_may_turn-requires : goal.any_may_turn-requires
any_may_turn-requires g c = λ t.
    let r = c.rounds.invariant in
    let place : Standing = place_after c.args.code.now c.args.shape.now r.turns in
    c.table_laws.ensures.numbers c.args.code.now c.args.shape.now place.threads place.made place.started c.rounds.rounds.threads.seats.items r.seats t

pub finish-requires-clause-none : goal.finish-requires-clause-none
finish-requires-clause-none g c = λ t.
    subst (λ (words : List ℕ). may_turn_at words c.args.limit (get_or c.rounds.rounds.threads.seats.items t None) ≡ false) c.words.ensures
    (c.any_may_turn.ensures.none c.if-not-any_may_turn.true t)

pub next-requires-clause-one : goal.next-requires-clause-one
next-requires-clause-one g c = λ k h.
    subst (λ (words : List ℕ). (t : ℕ) × (may_turn_at words c.args.limit (get_or c.rounds.rounds.threads.seats.items t None) ≡ true)) c.words.ensures
    (c.any_may_turn.ensures.one c.if-not-any_may_turn.false)
