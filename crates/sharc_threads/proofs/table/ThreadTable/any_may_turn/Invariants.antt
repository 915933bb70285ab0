use Rattle.sharc_threads.proofs.Imports.{◌≡◌, ℕ, ◌<◌, false, None, get_or, may_turn_at}
use Rattle.sharc_threads.proofs.table.ThreadTable.any_may_turn.Given as goal

abbrev pub invariant-loop-seat : goal.invariant-loop-seat
invariant-loop-seat l = (t : ℕ) → t < l.seat-index → may_turn_at l.words l.limit (get_or l.self.seats.items t None) ≡ false
