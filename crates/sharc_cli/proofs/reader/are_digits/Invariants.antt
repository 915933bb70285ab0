use Rattle.sharc_cli.proofs.Imports.{◌≡◌, drop, all_ascii_digits}
use Rattle.sharc_cli.proofs.reader.are_digits.Given as goal

-- the bytes from here on decide
abbrev pub invariant-loop-byte : goal.invariant-loop-byte
invariant-loop-byte l = all_ascii_digits (drop l.byte-index l.bytes) ≡ all_ascii_digits l.bytes
