use Rattle.sharc_record.proofs.Imports.{◌≡◌, suc, ◌-◌, [], ◌++◌, length, Idle, unbegun, seats_with}
use Rattle.sharc_record.proofs.parts.give_seats.Given as goal

-- the rest has the parts of the ports from the number on, and the others' seats are in the list
abbrev pub invariant-loop-number : goal.invariant-loop-number
invariant-loop-number l = let count = length l.table.shared.key.journal.value.words in record {
  own : l.rest.table_id ≡ l.table.shared.table_id;
  parts : l.rest.me ≡ (record { parts = unbegun count l.number (suc (l.number-end - l.number)); turn = Idle }, []);
  given : l.seats.items ++ seats_with l.table.shared.table_id (unbegun count l.number (suc (l.number-end - l.number))) ≡ seats_with l.table.shared.table_id (unbegun count 0 l.ports);
}
