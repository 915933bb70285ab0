use Rattle.std.proofs.Common.{◌≡◌, ◌<◌, ℕ, List, refl, sym, ap, ◌∙◌, subst, arith}
use Rattle.sharc_bus.specs.Bus.{SeatView, RestView, OneHistory, lists_of}
use Rattle.sharc_rounds.proofs.{Places.at_place, Dealing.may_at, Rounding.{fit, are_back, round_made, has_hand, through}}
use Rattle.sharc_rounds.specs.{declared.stint.TheConstants.QUANTUM, Round.{Seat, hand_at}}
use Rattle.sharc_rounds.proofs.round.Rounds.make.Goals as goal

pub work-requires-clause-lent : goal.work-requires-clause-lent
work-requires-clause-lent g c = λ k h. record { plan_is = c.requires.plan; fits = c.requires.fits; words_are = c.requires.words.opening ∙ (sym c.requires.words.count ∙ c.requires.count) }

pub work-requires-clause-may : goal.work-requires-clause-may
work-requires-clause-may g c = λ k h w d low n.
    let code = c.args.code.now in
    let s = c.args.shape.now in
    may_at code s c.args.limit c.args.self.words.bus QUANTUM (hand_at c.in_ok-crew.crew.items w n d)
    (λ hand is.
    let only = c.in_ok-crew.ensures.only w n d hand (omega (arith, low, c.in_ok-crew.ensures.count)) is in
    fit code s c.args.limit c.args.self.words.bus c.args.self.threads.seats.items c.reserve.new.seats.items c.in_ok-ports.ports.items c.requires.seats c.reserve.ensures.count c.in_ok-reserve.ensures.each
    c.in_ok-ports.ensures.seats c.requires.words.ports c.in_ok-ports.ensures.unbegun n hand only.0 only.1)

pub gather-requires-clause-each : goal.gather-requires-clause-each
gather-requires-clause-each g c = λ n d low.
    let a : Seat = (at_place c.reserve.new.seats.items n (omega (arith, low, c.reserve.ensures.count, c.requires.seats.count))).one in
    let p : SeatView = (at_place c.in_ok-ports.ports.items n (omega (arith, low, c.in_ok-ports.ensures.seats.all, c.requires.words.ports))).one in
    let some : 0 < c.count-count.result = c.count-count.ensures.some in
    has_hand c.args.code.now c.args.shape.now c.args.limit c.count-count.result c.in_ok-crew.crew.items c.work.new.crew.items c.reserve.new.seats.items c.in_ok-ports.ports.items
    some c.in_ok-crew.ensures.count c.work.ensures.count c.in_ok-crew.ensures.each c.work.ensures.each n d a p low

pub end-rest-requires-clause-seats : goal.end-rest-requires-clause-seats
end-rest-requires-clause-seats g c =
    let code = c.args.code.now in
    let s = c.args.shape.now in
    let some : 0 < c.count-count.result = c.count-count.ensures.some in
    let ran = through code s c.args.limit c.count-count.result c.in_ok-crew.crew.items c.work.new.crew.items c.reserve.new.seats.items c.in_ok-ports.ports.items
    some c.in_ok-crew.ensures.count c.work.ensures.count c.in_ok-crew.ensures.each c.work.ensures.each c.in_ok-seats.seats.items c.in_ok-seats.ports.items c.in_ok-seats.ensures.each in
    are_back code s c.args.limit c.args.self.words.bus c.args.self.threads.seats.items c.reserve.new.seats.items c.in_ok-ports.ports.items c.requires.seats c.reserve.ensures.count c.in_ok-reserve.ensures.each
    c.in_ok-ports.ensures.seats c.requires.words.ports c.in_ok-ports.ensures.unbegun c.in_ok-seats.seats.items c.in_ok-seats.ports.items c.in_ok-seats.ensures.seats c.in_ok-seats.ensures.ports ran

pub returns-clause-kept : goal.returns-clause-kept
returns-clause-kept g c = record { bus = refl; of = c.end-rest.ensures.rest; count = refl }

pub returns-clause-made : goal.returns-clause-made
returns-clause-made g c =
    let code = c.args.code.now in
    let s = c.args.shape.now in
    let some : 0 < c.count-count.result = c.count-count.ensures.some in
    let ran = through code s c.args.limit c.count-count.result c.in_ok-crew.crew.items c.work.new.crew.items c.reserve.new.seats.items c.in_ok-ports.ports.items
    some c.in_ok-crew.ensures.count c.work.ensures.count c.in_ok-crew.ensures.each c.work.ensures.each c.in_ok-seats.seats.items c.in_ok-seats.ports.items c.in_ok-seats.ensures.each in
    let lists = lists_of c.in_ok-seats.ports.items in
    let before : List ℕ = c.args.self.words.rest.words in
    let now : List ℕ = c.end-rest.result.words in
    let began : c.in_ok-ports.round.words ≡ before = ap (λ (r : RestView). r.words) c.in_ok-ports.ensures.round in
    let history : OneHistory before lists now = subst (λ (xs : List ℕ). OneHistory xs lists now) began c.end-rest.ensures.history in
    round_made code s c.args.limit c.args.self.words.bus c.args.self.threads.seats.items c.reserve.new.seats.items c.in_ok-ports.ports.items c.requires.seats c.reserve.ensures.count c.in_ok-reserve.ensures.each
    c.in_ok-ports.ensures.seats c.requires.words.ports c.in_ok-ports.ensures.unbegun c.in_ok-seats.seats.items c.in_ok-seats.ports.items c.in_ok-seats.ensures.seats c.in_ok-seats.ensures.ports ran
    before now history
