use Rattle.std.proofs.Common.{◌≡◌, ℕ, List, None, true, false, get_or, sym, ap, subst}
use Rattle.sharc_code.specs.Whole.{place_after}
use Rattle.sharc_threads.specs.{Ends.Standing, Seats.may_turn_at}
use Rattle.sharc_bus.specs.Bus.{RestView}
use Rattle.sharc_rounds.proofs.Looking.{rounds_same}
use Rattle.sharc_rounds.proofs.run.run_rounds.Goals as goal

pub busy-busy-requires-clause-numbers : goal.busy-busy-requires-clause-numbers
busy-busy-requires-clause-numbers g c = λ t.
    let r = c.rounds.invariant in
    let place : Standing = place_after c.args.code.now c.args.shape.now r.turns in
    c.table_laws.ensures.numbers c.args.code.now c.args.shape.now place.threads place.made place.started c.rounds.rounds.threads.seats.items r.seats t

pub finish-requires-clause-rounds : goal.finish-requires-clause-rounds
finish-requires-clause-rounds g c = rounds_same c.args.code.now c.args.shape.now c.args.limit c.rounds.rounds c.busy-busy.new.self c.rounds.invariant c.busy-busy.ensures.same

pub finish-requires-clause-none : goal.finish-requires-clause-none
finish-requires-clause-none g c = λ t.
    subst (λ (words : List ℕ). may_turn_at words c.args.limit (get_or c.rounds.rounds.threads.seats.items t None) ≡ false) (sym (ap (λ (v : RestView). v.words) c.busy-busy.ensures.same.rest))
    (c.busy-busy.ensures.none (c.is_nobody.ensures.yes c.if-is_nobody.true) t)

pub next-requires-clause-rounds : goal.next-requires-clause-rounds
next-requires-clause-rounds g c = λ k h. rounds_same c.args.code.now c.args.shape.now c.args.limit c.rounds.rounds c.busy-busy.new.self c.rounds.invariant c.busy-busy.ensures.same

pub next-requires-clause-one : goal.next-requires-clause-one
next-requires-clause-one g c = λ k h.
    subst (λ (words : List ℕ). (t : ℕ) × (may_turn_at words c.args.limit (get_or c.rounds.rounds.threads.seats.items t None) ≡ true)) (sym (ap (λ (v : RestView). v.words) c.busy-busy.ensures.same.rest))
    (c.busy-busy.ensures.some (c.is_nobody.ensures.no c.if-is_nobody.false))
