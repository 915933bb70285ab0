use Rattle.sharc_threads.proofs.Imports.{◌≡◌, ℕ, None, length, get_or}
use Rattle.sharc_threads.proofs.table.empty.Given as goal

abbrev pub invariant-loop : goal.invariant-loop
invariant-loop l = record {
  count : length l.seats.items ≡ l.counter;
  none : (t : ℕ) → get_or l.seats.items t None ≡ None;
}
