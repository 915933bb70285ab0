use Rattle.sharc_bus.proofs.Imports.{◌≡◌, ◌+◌, List, ◌++◌, All, length, vec_len, Part, SeatView, HasAll}
use Rattle.sharc_bus.proofs.parts.take_seats.Given as goal

-- the parts of the seats that were taken are together, after those of the first
abbrev pub invariant-loop-seat : goal.invariant-loop-seat
invariant-loop-seat g l = record {
  own : l.all.table_id ≡ l.table.shared.table_id;
  buses : All (λ (s : SeatView). s.bus ≡ l.table.shared.table_id) l.seats.items;
  taken : (taken : List SeatView) × (l.fn.seats.items ≡ l.seats.items ++ taken) × HasAll taken l.all.me.0 × (length l.all.me.0 ≡ length l.fn.first.me.0 + length taken);
  first : (more : List Part) × (l.all.me.0 ≡ l.fn.first.me.0 ++ more);
  none : l.all.me.1 ≡ l.fn.first.me.1;
}

abbrev pub decreases-loop-seat : goal.decreases-loop-seat
decreases-loop-seat g l = vec_len l.seats
