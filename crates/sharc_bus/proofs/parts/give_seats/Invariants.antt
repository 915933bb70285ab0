use Rattle.sharc_bus.proofs.Imports.{◌≡◌, suc, ◌-◌, [], ◌++◌, unbegun, words_known, own_bit, seats_with}
use Rattle.sharc_bus.proofs.parts.give_seats.Given as goal

-- the rest has the parts of the ports from the counter on, and one more, and the others' seats are in the list
abbrev pub invariant-loop : goal.invariant-loop
invariant-loop g l = record {
  own : l.rest.table_id ≡ l.table.shared.table_id;
  parts : l.rest.me ≡ (unbegun (words_known l.fn.first.me.0) l.counter (suc (l.ports - l.counter)), []);
  bit : l.bit ≡ own_bit l.counter;
  given : l.seats.items ++ seats_with l.table.shared.table_id (unbegun (words_known l.fn.first.me.0) l.counter (l.ports - l.counter)) ≡ seats_with l.table.shared.table_id (unbegun (words_known l.fn.first.me.0) 0 l.ports);
}
