use Rattle.sharc_cpu.proofs.Imports.{◌≡◌, take, most_refs}
use Rattle.sharc_cpu.proofs.begin.most_refs.Given as goal

abbrev pub invariant-loop-function : goal.invariant-loop-function
invariant-loop-function l = l.most ≡ most_refs (take l.function-index l.code.functions.items)
