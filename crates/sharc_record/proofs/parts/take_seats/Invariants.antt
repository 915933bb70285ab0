use Rattle.sharc_record.proofs.Imports.{◌≡◌, List, ◌++◌, All, vec_len, Idle, SeatView, HasAll}
use Rattle.sharc_record.proofs.parts.take_seats.Given as goal

-- the parts of the seats that were taken are together
abbrev pub invariant-loop-seat : goal.invariant-loop-seat
invariant-loop-seat l = record {
  own : l.all.table_id ≡ l.table.shared.table_id;
  idle : l.all.me.0.turn ≡ Idle;
  ids : All (λ (s : SeatView). s.id ≡ l.table.shared.table_id) l.seats.items;
  taken : (taken : List SeatView) × (l.fn.seats.items ≡ l.seats.items ++ taken) × HasAll taken l.all.me.0.parts;
}

abbrev pub decreases-loop-seat : goal.decreases-loop-seat
decreases-loop-seat l = vec_len l.seats
