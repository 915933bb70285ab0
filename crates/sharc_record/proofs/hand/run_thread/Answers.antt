use Rattle.sharc_record.proofs.{Imports.{◌≡◌, Some, sym, ap, ◌∙◌, subst, arith, SeatView, PortView, NamesTell, HasRun, MadeOver, QUANTUM}, Running.idle}
use Rattle.sharc_record.proofs.hand.run_thread.Goals as goal

pub returns-then-not-is_on : goal.returns-then-not-is_on
returns-then-not-is_on g c =
    idle c.quantum_laws.ensures c.args.lent.now.code.now c.args.lent.now.shape.now c.args.lent.now.limit c.args.thread c.args.port c.requires.may.thread_is c.requires.may.within (sym c.is_on.ensures ∙ c.if-not-is_on.true)

pub run_trying-requires-clause-room : goal.run_trying-requires-clause-room
run_trying-requires-clause-room g c = c.requires.may.room (sym c.is_on.ensures ∙ c.if-not-is_on.false)

pub returns : goal.returns
returns g c =
    let code = c.args.lent.now.code.now in
    let s = c.args.lent.now.shape.now in
    let port : SeatView = c.args.port in
    let was : SeatView = c.of.result.seat in
    let after : SeatView = c.run_trying.new.port.port.seat in
    let same : was ≡ port = ap (λ (p : PortView). p.seat) c.of.ensures in
    let tells : NamesTell = c.journal_laws.ensures in
    let name : (after.id ≡ was.id) × (after.count ≡ was.count) × (after.number ≡ was.number) = tells after was c.run_trying.ensures.port.same in
    let serves : c.args.thread.machine.own.number ≡ was.number = sym c.requires.may.number_is ∙ ap (λ (p : SeatView). p.number) (sym same) in
    let made : MadeOver code s c.args.lent.now.limit QUANTUM c.args.thread c.run_trying.new.thread was.events after.events =
    c.quantum_laws.ensures.made code s c.most_events-most.result c.args.lent.now.limit QUANTUM was.number c.args.thread c.run_trying.new.thread was.events after.events c.run_trying.result (omega arith) c.most_events-most.ensures.within
    (λ low. let e = c.made.ensures in let more = c.most_events-most.ensures.more (omega (arith, low, e)) in omega (arith, more, e)) c.run_trying.ensures.quantum c.run_trying.ensures.thread c.run_trying.ensures.number serves in
    let run : HasRun code s c.args.lent.now.limit record { seat = Some c.args.thread; port = was } record { seat = Some c.run_trying.new.thread; port = after } =
    record { events = made.events; made = made.made; id_is = name.0; count_is = name.1; number = name.2; events_are = made.events_are; few = made.few } in
    let there : HasRun code s c.args.lent.now.limit record { seat = Some c.args.thread; port = port } record { seat = Some c.run_trying.new.thread; port = after } =
    subst (λ (p : SeatView). HasRun code s c.args.lent.now.limit record { seat = Some c.args.thread; port = p } record { seat = Some c.run_trying.new.thread; port = after }) same run in
    subst (λ (p : SeatView). HasRun code s c.args.lent.now.limit record { seat = Some c.args.thread; port = port } record { seat = Some c.run_trying.new.thread; port = p }) (sym c.into_seat.ensures) there
