use Rattle.sharc_record.proofs.{Imports.{◌≡◌, ◌<◌, ℕ, List, ◌++◌, length, refl, sym, ap, ◌∙◌, subst, arith, OneHistory, WordEvent, SeatView, lists_of, Journal, hand_at, Seat}, Places.at_place, Dealing.may_at, Rounding.{fit, are_back, round_made, has_hand, through}}
use Rattle.sharc_record.proofs.round.Rounds.make.Goals as goal

pub run_all-requires-clause-lent : goal.run_all-requires-clause-lent
run_all-requires-clause-lent g c = λ k h. record {
  plan_is = c.requires.plan;
  fits = c.requires.fits;
  words_are = ap (λ (j : Journal). length j.words) c.in_ok-shared.ensures.shared.0 ∙ (ap (λ (ws : List ℕ). length ws) c.make_room.ensures.words ∙ c.requires.words);
}

pub run_all-requires-clause-may : goal.run_all-requires-clause-may
run_all-requires-clause-may g c = λ k h w d low n.
    let code = c.args.code.now in
    let s = c.args.shape.now in
    may_at code s c.args.limit c.in_ok-shared.shared (hand_at c.in_ok-workers.workers.items w n d)
    (λ hand is.
    let only = c.in_ok-workers.ensures.only w n d hand (omega (arith, low, c.in_ok-workers.ensures.count)) is in
    fit c.quantum_laws.ensures code s c.args.limit c.in_ok-shared.shared c.args.self.threads.seats.items c.reserve.new.seats.items c.in_ok-shared.ports.items c.requires.seats c.reserve.ensures.count c.in_ok-reserve.ensures.each
    c.in_ok-shared.ensures.seats c.in_ok-shared.ensures.shared.1 c.in_ok-shared.ensures.unbegun n hand only.0 only.1)

pub gather-requires-clause-each : goal.gather-requires-clause-each
gather-requires-clause-each g c = λ n d low.
    let a : Seat = (at_place c.reserve.new.seats.items n (omega (arith, low, c.reserve.ensures.count, c.requires.seats.count))).one in
    let p : SeatView = (at_place c.in_ok-shared.ports.items n (omega (arith, low, c.in_ok-shared.ensures.seats.all, c.in_ok-shared.ensures.shared.1))).one in
    let some : 0 < c.workers_needed-count.result = c.workers_needed-count.ensures.some in
    has_hand c.args.code.now c.args.shape.now c.args.limit c.workers_needed-count.result c.in_ok-workers.workers.items c.run_all.new.workers.items c.reserve.new.seats.items c.in_ok-shared.ports.items
    some c.in_ok-workers.ensures.count c.run_all.ensures.count c.in_ok-workers.ensures.each c.run_all.ensures.each n d a p low

pub close-port-requires : goal.close-port-requires
close-port-requires g c =
    let code = c.args.code.now in
    let s = c.args.shape.now in
    let some : 0 < c.workers_needed-count.result = c.workers_needed-count.ensures.some in
    let ran = through code s c.args.limit c.workers_needed-count.result c.in_ok-workers.workers.items c.run_all.new.workers.items c.reserve.new.seats.items c.in_ok-shared.ports.items
    some c.in_ok-workers.ensures.count c.run_all.ensures.count c.in_ok-workers.ensures.each c.run_all.ensures.each c.in_ok-seats.seats.items c.in_ok-seats.ports.items c.in_ok-seats.ensures.each in
    are_back c.quantum_laws.ensures code s c.args.limit c.in_ok-shared.shared c.args.self.threads.seats.items c.reserve.new.seats.items c.in_ok-shared.ports.items c.requires.seats c.reserve.ensures.count c.in_ok-reserve.ensures.each
    c.in_ok-shared.ensures.seats c.in_ok-shared.ensures.shared.1 c.in_ok-shared.ensures.unbegun c.in_ok-seats.seats.items c.in_ok-seats.ports.items c.in_ok-seats.ensures.seats c.in_ok-seats.ensures.ports ran

pub returns : goal.returns
returns g c =
    let code = c.args.code.now in
    let s = c.args.shape.now in
    let some : 0 < c.workers_needed-count.result = c.workers_needed-count.ensures.some in
    let ran = through code s c.args.limit c.workers_needed-count.result c.in_ok-workers.workers.items c.run_all.new.workers.items c.reserve.new.seats.items c.in_ok-shared.ports.items
    some c.in_ok-workers.ensures.count c.run_all.ensures.count c.in_ok-workers.ensures.each c.run_all.ensures.each c.in_ok-seats.seats.items c.in_ok-seats.ports.items c.in_ok-seats.ensures.each in
    let lists = lists_of c.in_ok-seats.ports.items in
    let one = c.close-port.ensures in
    let opened = c.in_ok-shared.ensures.shared.0 in
    let first : c.in_ok-shared.shared.opened.words ≡ c.args.self.port = ap (λ (j : Journal). j.words) opened ∙ c.make_room.ensures.words in
    let now : List ℕ = c.close-port.result.words in
    let both : (h : OneHistory c.args.self.port lists now) × (h.history ≡ one.history) =
    subst (λ (xs : List ℕ). (h : OneHistory xs lists now) × (h.history ≡ one.history)) first (record { history = one.history; legal = one.legal; parts = one.parts; words_are = one.words_are }, refl) in
    record {
      round = round_made c.quantum_laws.ensures code s c.args.limit c.in_ok-shared.shared c.args.self.threads.seats.items c.reserve.new.seats.items c.in_ok-shared.ports.items c.requires.seats c.reserve.ensures.count c.in_ok-reserve.ensures.each
          c.in_ok-shared.ensures.seats c.in_ok-shared.ensures.shared.1 c.in_ok-shared.ensures.unbegun c.in_ok-seats.seats.items c.in_ok-seats.ports.items c.in_ok-seats.ensures.seats c.in_ok-seats.ensures.ports ran
          c.args.self.port now both.0;
      appended = one.events_are
          ∙ (ap (λ (j : Journal). j.events.items ++ one.history) opened
          ∙ (ap (λ (es : List WordEvent). es ++ one.history) c.make_room.ensures.events ∙ ap (λ (h : List WordEvent). c.args.self.events.items ++ h) (sym both.1)));
    }
