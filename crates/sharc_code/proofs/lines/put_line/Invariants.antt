use Rattle.sharc_code.proofs.Imports.{◌≡◌, ◌++◌, take, flat_map, operand_text}
use Rattle.sharc_code.proofs.lines.put_line.Given as goal

abbrev pub invariant-loop-operand : goal.invariant-loop-operand
invariant-loop-operand l = l.text.items ≡ l.fn.text.items ++ (l.word ++ flat_map operand_text (take l.operand-index l.operands))
