use Rattle.sharc_code.proofs.Imports.{◌≡◌, ◌≤◌, map, vec_capacity, range_with_len, words_of, IsShape, opens_with}
use Rattle.sharc_code.proofs.words.opening.Given as goal

abbrev pub invariant-loop-word : goal.invariant-loop-word
invariant-loop-word g l =
    (l.words.items ≡ map (opens_with l.code l.shape) (range_with_len 0 l.word)) × (l.word ≤ l.count) × (l.count ≤ vec_capacity l.words)
    × (l.count ≡ words_of l.shape) × IsShape l.shape
