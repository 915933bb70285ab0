use Rattle.sharc_threads.proofs.Imports.{◌≡◌, ℕ, ◌<◌, false, None, get_or, is_on_at}
use Rattle.sharc_threads.proofs.table.ThreadTable.all_done.Given as goal

abbrev pub invariant-loop-seat : goal.invariant-loop-seat
invariant-loop-seat l = (t : ℕ) → t < l.seat-index → is_on_at (get_or l.self.seats.items t None) ≡ false
