use Rattle.std.proofs.Common.{take}
use Rattle.sharc_meaning.specs.Store.{LegalStore}
use Rattle.sharc_judge.proofs.legal.first_illegal.Given as goal

abbrev pub invariant-loop-i : goal.invariant-loop-i
invariant-loop-i l = LegalStore l.typed (take l.i l.events)
