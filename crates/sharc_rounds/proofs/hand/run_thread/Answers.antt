use Rattle.std.proofs.Common.{◌≡◌, ℕ, Some, sym, ap, ◌∙◌, subst, arith}
use Rattle.sharc_bus.specs.Bus.{SeatView, PortView, NamesTell}
use Rattle.sharc_rounds.specs.Round.{HasRun, MadeOver}
use Rattle.sharc_rounds.proofs.Running.{quanta_made, room_left}
use Rattle.sharc_rounds.proofs.hand.run_thread.Goals as goal

pub run_trying-requires-clause-room : goal.run_trying-requires-clause-room
run_trying-requires-clause-room g c = c.requires.may.room c.requires.on

pub returns-clause-ran : goal.returns-clause-ran
returns-clause-ran g c =
    let code = c.args.lent.now.code.now in
    let s = c.args.lent.now.shape.now in
    let port : SeatView = c.args.port in
    let was : SeatView = c.of.result.seat in
    let after : SeatView = c.run_trying.new.port.port.seat in
    let same : was ≡ port = ap (λ (p : PortView). p.seat) c.of.ensures in
    let tells : NamesTell = c.name_laws.ensures in
    let name : (after.bus ≡ was.bus) × (after.number ≡ was.number) = tells after was c.run_trying.ensures.port.same in
    let serves : c.args.thread.machine.own.number ≡ was.number = sym c.requires.may.number_is ∙ ap (λ (p : SeatView). p.number) (sym same) in
    let made : MadeOver code s c.args.lent.now.limit c.args.stint.turns c.args.thread c.run_trying.new.thread was.events after.events =
    quanta_made c.place_laws.ensures code s c.most_events-most.result c.args.lent.now.limit c.args.stint.turns was.number c.args.thread c.run_trying.new.thread was.events after.events c.run_trying.result c.requires.some c.most_events-most.ensures.within
    (λ low. let e = c.made.ensures in let more = c.most_events-most.ensures.more (omega (arith, low, e)) in omega (arith, more, e)) c.run_trying.ensures.quantum c.run_trying.ensures.thread c.run_trying.ensures.number serves in
    let run : HasRun code s c.args.lent.now.limit record { seat = Some c.args.thread; port = was } record { seat = Some c.run_trying.new.thread; port = after } =
    record { events = made.events; made = made.made; bus_is = name.0; number = name.1; events_are = made.events_are } in
    let there : HasRun code s c.args.lent.now.limit record { seat = Some c.args.thread; port = port } record { seat = Some c.run_trying.new.thread; port = after } =
    subst (λ (p : SeatView). HasRun code s c.args.lent.now.limit record { seat = Some c.args.thread; port = p } record { seat = Some c.run_trying.new.thread; port = after }) same run in
    subst (λ (p : SeatView). HasRun code s c.args.lent.now.limit record { seat = Some c.args.thread; port = port } record { seat = Some c.run_trying.new.thread; port = p }) (sym c.into_seat.ensures) there

pub returns-clause-room : goal.returns-clause-room
returns-clause-room g c = room_left c.args.stint.turns c.args.thread c.run_trying.new.thread c.requires.on c.run_trying.ensures.room
