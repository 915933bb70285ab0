use Rattle.sharc_ctype.proofs.Imports.{◌≡◌, ℕ, ◌+◌, ◌<◌, ◌≤◌, ◌==◌, false, get_or as slice_index_or, bit_at, pointer_cells}
use Rattle.sharc_ctype.proofs.layout.word_from.Given as goal

abbrev pub invariant-loop-bit : goal.invariant-loop-bit
invariant-loop-bit l = record {
  below : (k : ℕ) → k < l.bit → (bit_at l.word k == 1) ≡ slice_index_or (pointer_cells l.fields) (l.from + k) false;
  above : (k : ℕ) → l.bit ≤ k → bit_at l.word k ≡ 0;
}
