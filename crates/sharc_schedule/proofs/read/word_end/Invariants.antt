use Rattle.sharc_schedule.proofs.Imports.{◌≡◌, ◌≤◌, ◌-◌, ◌++◌, length, take, drop, word_of, after_word}
use Rattle.sharc_schedule.proofs.read.word_end.Given as goal

abbrev pub invariant-loop-end : goal.invariant-loop-end
invariant-loop-end l = record {
  within : l.end ≤ length l.line;
  word : word_of l.line ≡ take l.end l.line ++ word_of (drop l.end l.line);
  rest_after : after_word l.line ≡ after_word (drop l.end l.line);
}

abbrev pub decreases-loop-end : goal.decreases-loop-end
decreases-loop-end l = length l.line - l.end
