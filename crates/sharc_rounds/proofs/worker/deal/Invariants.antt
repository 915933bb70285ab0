use Rattle.std.proofs.Common.{◌≡◌, ◌<◌, ◌≤◌, ◌%◌, ◌+◌, ℕ, length, Some, get_or}
use Rattle.sharc_word.specs.declared.step.TheConstants.{THREADS}
use Rattle.sharc_rounds.specs.{Round.{Seat, hand_at}, declared.hand.Hand.Hand, declared.worker.Worker.Worker}
use Rattle.sharc_rounds.proofs.worker.deal.Given as goal

abbrev pub invariant-loop-seat : goal.invariant-loop-seat
invariant-loop-seat g l = record {
  count : length l.workers.items ≡ l.count;
  each : (w : ℕ) (d : Worker g.row.S.Denot) → w < l.count → length (get_or l.workers.items w d).hands.items ≡ THREADS;
  few : l.n ≤ THREADS;
  seats_left : l.n + length l.seat-iterator.a.rest.items ≡ THREADS;
  ports_left : l.n + length l.seat-iterator.b.rest.items ≡ THREADS;
  seats : (k : ℕ) (a : Seat) → get_or l.seat-iterator.a.rest.items k a ≡ get_or l.fn.seats.items (l.n + k) a;
  ports : (k : ℕ) (p : g.row.S.Denot) → get_or l.seat-iterator.b.rest.items k p ≡ get_or l.fn.ports.items (l.n + k) p;
  done : (n : ℕ) (d : Worker g.row.S.Denot) (a : Seat) (p : g.row.S.Denot) → n < l.n → hand_at l.workers.items (n % l.count) n d ≡ Some record { seat = get_or l.fn.seats.items n a; port = get_or l.fn.ports.items n p };
  only : (w n : ℕ) (d : Worker g.row.S.Denot) (hand : Hand g.row.S.Denot) → w < l.count → hand_at l.workers.items w n d ≡ Some hand → (n < l.n) × (hand ≡ record { seat = get_or l.fn.seats.items n hand.seat; port = get_or l.fn.ports.items n hand.port });
}
