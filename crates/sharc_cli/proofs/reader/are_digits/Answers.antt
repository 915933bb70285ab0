use Rattle.sharc_cli.proofs.{Imports.{sym, arith}, Numbers.{digits_fail, digits_pass}}
use Rattle.sharc_cli.proofs.reader.are_digits.Goals as goal

pub returns-then-not-is_ascii_digit : goal.returns-then-not-is_ascii_digit
returns-then-not-is_ascii_digit c =
    digits_fail c.args.bytes.now c.loop-byte.byte-index (omega arith) (sym c.if-not-is_ascii_digit.ensures.value) c.loop-byte.invariant

pub loop-byte-preserved : goal.loop-byte-preserved
loop-byte-preserved c =
    digits_pass c.args.bytes.now c.loop-byte.byte-index (omega arith) (sym c.if-not-is_ascii_digit.ensures.value) c.loop-byte.invariant
