use Rattle.sharc_lex.proofs.Imports.{◌≡◌, ◌+◌, ◌==◌, drop, position_or_len}
use Rattle.sharc_lex.proofs.reading.line_len.Given as goal

abbrev pub invariant-loop-i : goal.invariant-loop-i
invariant-loop-i l = l.i + position_or_len (λ b. b == 10) (drop l.i l.bytes) ≡ position_or_len (λ b. b == 10) l.bytes
