use Rattle.sharc_bus.proofs.Imports.{◌≡◌, ◌<◌, ℕ, get_or}
use Rattle.sharc_bus.proofs.parts.read_words.Given as goal

abbrev pub invariant-loop-i : goal.invariant-loop-i
invariant-loop-i g l = (k : ℕ) → k < l.i → get_or l.words k 0 ≡ get_or l.closed.words.items k 0
