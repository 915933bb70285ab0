use Rattle.sharc_lex.proofs.Imports.{◌≡◌, ◌+◌, ◌-◌, ◌≤◌, length, drop, behind_tokens, tokens_of}
use Rattle.sharc_lex.proofs.lines.read_tokens.Given as goal

abbrev pub invariant-loop-at : goal.invariant-loop-at
invariant-loop-at l = record {
  within : l.at ≤ length l.line;
  read : behind_tokens l.initial.tokens.items (tokens_of l.place 0 l.offset l.line) ≡ behind_tokens l.tokens.items (tokens_of l.place 0 (l.offset + l.at) (drop l.at l.line));
}

abbrev pub decreases-loop-at : goal.decreases-loop-at
decreases-loop-at l = length l.line - l.at
