-- The seats that are given out are those of all ports.
use Rattle.sharc_bus.proofs.{Imports.{List, ap, ◌∙◌, subst, unbegun, words_known, BusView, SeatView, AreSeatsOf, seats_with}, Giving.{seats_are, seats_unbegun}}
use Rattle.sharc_bus.proofs.bus.Bus.begin.Goals as goal

pub returns-clause-seats : goal.returns-clause-seats
returns-clause-seats g c =
    let shared = c.self.inside.table.shared in
    let bus : BusView = record { id = shared.table_id; opening = shared.key.words.items; ports = shared.key.ports } in
    let seats : List SeatView = c.give_seats.new.seats.items in
    let words = words_known c.into_inner.result.me.0 in
    let are : AreSeatsOf bus seats = seats_are bus words seats (c.in_ok-last.ensures.seats ∙ ap (λ n. seats_with shared.table_id (unbegun words 0 n)) c.self.invariant.1) in
    subst (λ (b : BusView). AreSeatsOf b seats) c.self.view_is are

pub returns-clause-unbegun : goal.returns-clause-unbegun
returns-clause-unbegun g c =
    seats_unbegun c.self.inside.table.shared.table_id (words_known c.into_inner.result.me.0) c.self.inside.ports c.give_seats.new.seats.items c.in_ok-last.ensures.seats
