use Rattle.std.proofs.Common.{◌≡◌, ℕ, ◌<◌, ◌≤◌, ◌%◌, Some, length, get_or}
use Rattle.sharc_word.specs.declared.step.TheConstants.{THREADS}
use Rattle.sharc_rounds.specs.{Round.{Seat, hand_at}, declared.worker.Worker.Worker}
use Rattle.sharc_rounds.proofs.worker.gather.Given as goal

abbrev pub invariant-loop-n : goal.invariant-loop-n
invariant-loop-n g l = record {
  count : length l.workers.items ≡ length l.fn.workers.items;
  seats : length l.seats.items ≡ l.n;
  ports : length l.ports.items ≡ l.n;
  left : (m : ℕ) (d : Worker g.row.S.Denot) → l.n ≤ m → m < THREADS → hand_at l.workers.items (m % length l.fn.workers.items) m d ≡ hand_at l.fn.workers.items (m % length l.fn.workers.items) m d;
  done : (m : ℕ) (d : Worker g.row.S.Denot) (a : Seat) (p : g.row.S.Denot) → m < l.n → hand_at l.fn.workers.items (m % length l.fn.workers.items) m d ≡ Some record { seat = get_or l.seats.items m a; port = get_or l.ports.items m p };
}
