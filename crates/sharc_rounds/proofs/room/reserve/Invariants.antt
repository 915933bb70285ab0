use Rattle.std.proofs.Common.{◌≡◌, ℕ, ◌<◌, ◌≤◌, None, length, get_or}
use Rattle.sharc_rounds.specs.Round.{HasRoomAt}
use Rattle.sharc_rounds.proofs.room.reserve.Given as goal

abbrev pub invariant-loop-n : goal.invariant-loop-n
invariant-loop-n l = record {
  count : length l.seats.items ≡ length l.fn.seats.items;
  done : (n : ℕ) → n < l.n → HasRoomAt l.turns (get_or l.fn.seats.items n None) (get_or l.seats.items n None);
  left : (n : ℕ) → l.n ≤ n → get_or l.seats.items n None ≡ get_or l.fn.seats.items n None;
}
