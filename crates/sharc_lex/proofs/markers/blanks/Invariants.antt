use Rattle.sharc_lex.proofs.Imports.{◌≡◌, ◌+◌, drop, prefix_len, is_blank}
use Rattle.sharc_lex.proofs.markers.blanks.Given as goal

abbrev pub invariant-loop-i : goal.invariant-loop-i
invariant-loop-i l = l.i + prefix_len is_blank (drop l.i l.bytes) ≡ prefix_len is_blank l.bytes
