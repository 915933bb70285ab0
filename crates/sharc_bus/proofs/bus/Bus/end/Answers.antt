-- All parts are together, and begin a round with the words that the one history of their lists leaves.
use Rattle.sharc_bus.proofs.{Imports.{suc, sym, ap, ◌∙◌, subst, words_known, BusView, RestView, IsOf, OneHistory, lists_of}, Settling.settle_allowed, Closing.{all_there, rest_then, one_history}}
use Rattle.sharc_bus.proofs.bus.Bus.end.Goals as goal

pub load-requires : goal.load-requires
load-requires g c =
    let shared = c.self.inside.table.shared in
    let bus : BusView = record { id = shared.table_id; opening = shared.key.words.items; ports = shared.key.ports } in
    let told = c.take_seats-all.ensures in
    let all = c.take_seats-all.result in
    let there = all_there bus _ c.self.view_is c.args.round c.requires.round c.args.seats.items c.requires.seats c.into_inner.result.table_id c.into_inner.result.me.0 c.take_seats-all.result.me.0 c.into_inner.ensures.view c.into_inner.ensures.round.parts told.first told.all told.count in
    (told.own, c.self.invariant.0.some_word, settle_allowed c.history_laws.ensures shared.key.words.items (suc shared.key.ports) shared.table_id.slots all.id 0 all.me there.0 there.1 there.2)

pub new-requires : goal.new-requires
new-requires g c =
    let shared = c.self.inside.table.shared in
    let bus : BusView = record { id = shared.table_id; opening = shared.key.words.items; ports = shared.key.ports } in
    let told = c.take_seats-all.ensures in
    let r = rest_then bus _ c.self.view_is c.args.round c.requires.round c.args.seats.items c.requires.seats c.into_inner.result.table_id c.into_inner.result.me.0 c.take_seats-all.result.me.0 c.into_inner.ensures.view c.into_inner.ensures.round.parts told.first told.all told.count c.load.new.seat.me.0 c.load.ensures.2.0 in
    record { parts = r.is; none = c.load.ensures.2.1 ∙ told.none ∙ c.into_inner.ensures.round.none }

pub returns-clause-rest : goal.returns-clause-rest
returns-clause-rest g c =
    let shared = c.self.inside.table.shared in
    let bus : BusView = record { id = shared.table_id; opening = shared.key.words.items; ports = shared.key.ports } in
    let told = c.take_seats-all.ensures in
    let r = rest_then bus _ c.self.view_is c.args.round c.requires.round c.args.seats.items c.requires.seats c.into_inner.result.table_id c.into_inner.result.me.0 c.take_seats-all.result.me.0 c.into_inner.ensures.view c.into_inner.ensures.round.parts told.first told.all told.count c.load.new.seat.me.0 c.load.ensures.2.0 in
    let rest : RestView = c.new.result in
    let is : IsOf bus rest = record {
      bus_is = ap (λ (v : RestView). v.bus) c.new.ensures ∙ c.load.ensures.0 ∙ told.own;
      ports_are = ap (λ (v : RestView). v.ports) c.new.ensures ∙ r.ports_are;
    } in
    subst (λ (b : BusView). IsOf b rest) c.self.view_is is

pub returns-clause-history : goal.returns-clause-history
returns-clause-history g c =
    let shared = c.self.inside.table.shared in
    let bus : BusView = record { id = shared.table_id; opening = shared.key.words.items; ports = shared.key.ports } in
    let told = c.take_seats-all.ensures in
    let one : OneHistory c.args.round.words (lists_of c.args.seats.items) (words_known c.load.new.seat.me.0) =
    one_history bus _ c.self.view_is c.args.round c.requires.round c.args.seats.items c.requires.seats c.into_inner.result.table_id c.into_inner.result.me.0 c.take_seats-all.result.me.0 c.into_inner.ensures.view c.into_inner.ensures.round.parts told.first told.all told.count c.load.new.seat.me.0 c.load.ensures.2.0 in
    subst (λ ws. OneHistory c.args.round.words (lists_of c.args.seats.items) ws) (sym (ap (λ (v : RestView). v.words) c.new.ensures)) one
