use Rattle.sharc_record.proofs.Imports.{◌≡◌, ℕ, ◌<◌, ◌≤◌, None, length, get_or, HasRunAt}
use Rattle.sharc_record.proofs.worker.run_worker.Given as goal

abbrev pub invariant-loop-n : goal.invariant-loop-n
invariant-loop-n g l = record {
  count : length l.worker.hands.items ≡ length l.fn.worker.hands.items;
  done : (m : ℕ) → m < l.n → HasRunAt l.lent.code.now l.lent.shape.now l.lent.limit (get_or l.fn.worker.hands.items m None) (get_or l.worker.hands.items m None);
  left : (m : ℕ) → l.n ≤ m → get_or l.worker.hands.items m None ≡ get_or l.fn.worker.hands.items m None;
}
