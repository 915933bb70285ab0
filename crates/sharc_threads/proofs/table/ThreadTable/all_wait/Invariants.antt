use Rattle.sharc_threads.proofs.Imports.{◌≡◌, ℕ, ◌<◌, true, None, get_or, is_on_at, waits_at}
use Rattle.sharc_threads.proofs.table.ThreadTable.all_wait.Given as goal

abbrev pub invariant-loop-seat : goal.invariant-loop-seat
invariant-loop-seat l = (t : ℕ) → t < l.seat-index → is_on_at (get_or l.self.seats.items t None) ≡ true → waits_at l.words (get_or l.self.seats.items t None) ≡ true
