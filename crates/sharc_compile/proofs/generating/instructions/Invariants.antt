use Rattle.sharc_compile.proofs.Imports.{◌≡◌, map, take, instr_of}
use Rattle.sharc_compile.proofs.generating.instructions.Given as goal

abbrev pub invariant-loop-statement : goal.invariant-loop-statement
invariant-loop-statement l = l.instrs.items ≡ map (instr_of l.functions) (take l.statement-index l.statements)
