use Rattle.sharc_lex.proofs.Imports.{◌≡◌, ◌+◌, drop, prefix_len, is_word_byte}
use Rattle.sharc_lex.proofs.bytes.word_len.Given as goal

abbrev pub invariant-loop-i : goal.invariant-loop-i
invariant-loop-i l = l.i + prefix_len is_word_byte (drop l.i l.bytes) ≡ prefix_len is_word_byte l.bytes
