use Rattle.sharc_load.proofs.Imports.{◌≡◌, ◌++◌, map, string_bytes, range_with_len, text_of, step_line}
use Rattle.sharc_load.proofs.source.write_steps.Given as goal

-- the lines so far come after what was there before
abbrev pub invariant-loop-i : goal.invariant-loop-i
invariant-loop-i g l =
    string_bytes l.text ≡ string_bytes l.initial.text ++ text_of (map step_line (range_with_len 0 l.i-counter))
