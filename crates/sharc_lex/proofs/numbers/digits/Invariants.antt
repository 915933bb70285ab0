use Rattle.sharc_lex.proofs.Imports.{◌≡◌, ◌<◌, ◌^◌, drop, value_behind}
use Rattle.sharc_lex.proofs.numbers.digits.Given as goal

abbrev pub invariant-loop-byte : goal.invariant-loop-byte
invariant-loop-byte l = record {
  below : l.high < 2 ^ 63;
  rest : value_behind l.base l.high (drop l.byte-index l.bytes) ≡ value_behind l.base 0 l.bytes;
}
