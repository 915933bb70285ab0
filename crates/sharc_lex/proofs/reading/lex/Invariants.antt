use Rattle.sharc_lex.proofs.{Imports.{◌≡◌, ◌+◌, ◌-◌, ◌≤◌, length, IsWithin, lines_read, lines_of, opening, read_of}, ReadingLemmas.lines_from}
use Rattle.sharc_lex.proofs.reading.lex.Given as goal

abbrev pub invariant-loop-at : goal.invariant-loop-at
invariant-loop-at l = record {
  within : IsWithin l.at (read_of l.reading);
  bound : l.at ≤ length l.source + 1;
  rest : lines_read (read_of l.reading) l.at (lines_from l.at l.source) ≡ lines_read opening 0 (lines_of l.source);
}

abbrev pub decreases-loop-at : goal.decreases-loop-at
decreases-loop-at l = length l.source + 1 - l.at
