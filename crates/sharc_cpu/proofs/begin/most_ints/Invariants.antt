use Rattle.sharc_cpu.proofs.Imports.{◌≡◌, take, most_ints}
use Rattle.sharc_cpu.proofs.begin.most_ints.Given as goal

abbrev pub invariant-loop-function : goal.invariant-loop-function
invariant-loop-function l = l.most ≡ most_ints (take l.function-index l.code.functions.items)
