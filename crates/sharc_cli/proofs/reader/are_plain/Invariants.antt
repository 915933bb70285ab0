use Rattle.sharc_cli.proofs.Imports.{◌≡◌, map, string_bytes, drop, list_all, is_plain}
use Rattle.sharc_cli.proofs.reader.are_plain.Given as goal

-- the words from here on decide
abbrev pub invariant-loop-word : goal.invariant-loop-word
invariant-loop-word l = list_all is_plain (map string_bytes (drop l.word-index l.words)) ≡ list_all is_plain (map string_bytes l.words)
