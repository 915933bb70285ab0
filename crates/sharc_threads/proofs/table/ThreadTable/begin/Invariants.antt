use Rattle.sharc_threads.proofs.Imports.{◌≡◌, ℕ, ◌<◌, ◌≤◌, None, length, get_or, HasBegun}
use Rattle.sharc_threads.proofs.table.ThreadTable.begin.Given as goal

abbrev pub invariant-loop-number : goal.invariant-loop-number
invariant-loop-number l = record {
  count : length l.self.seats.items ≡ length l.fn.self.seats.items;
  done : (t : ℕ) → t < l.number → HasBegun l.code l.shape l.words t (get_or l.fn.self.seats.items t None) (get_or l.self.seats.items t None);
  left : (t : ℕ) → l.number ≤ t → get_or l.self.seats.items t None ≡ get_or l.fn.self.seats.items t None;
}
