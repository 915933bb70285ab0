use Rattle.std.proofs.Common.{◌≡◌, ℕ, ◌<◌, slice_index}
use Rattle.sharc_code.specs.Layout.{state_word}
use Rattle.sharc_rounds.specs.Round.{SameWords}
use Rattle.sharc_rounds.proofs.words.Words.look_at_states.Given as goal

abbrev pub invariant-loop-n : goal.invariant-loop-n
invariant-loop-n l = record {
  same : SameWords l.fn.self l.self;
  states : (t : ℕ) → t < l.n → slice_index l.self.seen.items (state_word t) ≡ slice_index l.fn.self.rest.words (state_word t);
}
