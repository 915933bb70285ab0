use Rattle.sharc_dataflow.proofs.Imports.{take, AreBetween}
use Rattle.sharc_dataflow.proofs.uses.all_between.Given as goal

abbrev pub invariant-loop-x : goal.invariant-loop-x
invariant-loop-x l = AreBetween l.first l.last (take l.x-index l.list)
