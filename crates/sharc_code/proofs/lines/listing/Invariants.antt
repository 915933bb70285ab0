use Rattle.sharc_code.proofs.Imports.{◌≡◌, take, flat_map, line_of}
use Rattle.sharc_code.proofs.lines.listing.Given as goal

abbrev pub invariant-loop-instr : goal.invariant-loop-instr
invariant-loop-instr l = l.text.items ≡ flat_map line_of (take l.instr-index l.code.instrs.items)
