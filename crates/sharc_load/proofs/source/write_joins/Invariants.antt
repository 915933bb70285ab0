use Rattle.sharc_load.proofs.Imports.{◌≡◌, ◌++◌, map, string_bytes, ◌-◌, range_with_len, text_of, join_line}
use Rattle.sharc_load.proofs.source.write_joins.Given as goal

-- the lines so far come after what was there before
abbrev pub invariant-loop-k : goal.invariant-loop-k
invariant-loop-k g l =
    string_bytes l.text ≡ string_bytes l.initial.text ++ text_of (map join_line (range_with_len 1 (l.k-counter - 1)))
