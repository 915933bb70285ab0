use Rattle.std.proofs.Common.{◌≡◌, ℕ, ◌<◌, true, false, None, get_or}
use Rattle.std.specs.Prelude.{IsSome}
use Rattle.sharc_threads.specs.Seats.{may_turn_at}
use Rattle.sharc_rounds.specs.Round.{SameWords}
use Rattle.sharc_rounds.proofs.words.Words.busy.Given as goal

abbrev pub invariant-loop-n : goal.invariant-loop-n
invariant-loop-n l = record {
  same : SameWords l.fn.self l.self;
  none : l.first ≡ None → (t : ℕ) → t < l.n → may_turn_at l.fn.self.rest.words l.limit (get_or l.threads.seats.items t None) ≡ false;
  one : IsSome l.first → (t : ℕ) × (may_turn_at l.fn.self.rest.words l.limit (get_or l.threads.seats.items t None) ≡ true);
}
