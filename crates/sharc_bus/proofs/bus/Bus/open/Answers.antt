-- The table opens under the rule, with the parts of all ports.
use Rattle.sharc_bus.proofs.{Imports.{◌≡◌, suc, List, [], sym, ap, ◌∙◌, subst, Me, opening, Part, BusRule, unbegun, RestView}, Seats.opening_keeps, Closing.rest_of}
use Rattle.sharc_bus.proofs.bus.Bus.open.Goals as goal

abbrev M : Type 0
M = Me (Unit {0}) (List Part)

pub of_words-requires : goal.of_words-requires
of_words-requires g c =
    let o = c.args.opening.now in
    subst (λ ws. BusRule o.words.items (suc o.ports) (opening ws [] (unbegun o.words.items 0 (suc o.ports)))) (sym c.as_slice.ensures.value) (opening_keeps c.history_laws.ensures o.words.items (suc o.ports))

pub new-requires : goal.new-requires
new-requires g c =
    let o = c.args.opening.now in
    let first : c.in_ok-table.seat.me ≡ (unbegun o.words.items 0 (suc o.ports), []) = c.in_ok-table.ensures.4 in
    let r = rest_of c.in_ok-table.seat.me.0 o.words.items o.ports (ap (λ (m : M). m.0) first) in
    record { parts = r.is; none = ap (λ (m : M). m.1) first }

pub returns-clause-rest : goal.returns-clause-rest
returns-clause-rest g c =
    let o = c.args.opening.now in
    let first : c.in_ok-table.seat.me ≡ (unbegun o.words.items 0 (suc o.ports), []) = c.in_ok-table.ensures.4 in
    let r = rest_of c.in_ok-table.seat.me.0 o.words.items o.ports (ap (λ (m : M). m.0) first) in
    record {
      bus_is = ap (λ (v : RestView). v.bus) c.new.ensures ∙ c.in_ok-table.ensures.2;
      ports_are = ap (λ (v : RestView). v.ports) c.new.ensures ∙ r.ports_are ∙ sym (ap (λ k. k.ports) c.in_ok-table.ensures.5);
    }
