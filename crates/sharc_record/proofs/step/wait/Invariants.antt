use Rattle.sharc_record.proofs.Imports.{◌≡◌}
use Rattle.sharc_record.proofs.step.wait.Given as goal

-- the ticket is not served yet
abbrev pub invariant-loop : goal.invariant-loop
invariant-loop g l = record {
  next : (goal.iterator-loop g).can_next l.iterator' × (goal.iterator-loop g).is_finite l.iterator';
  own : l.seat.table_id ≡ l.fn.seat.table_id;
  same : l.seat.me ≡ l.fn.seat.me;
}
