use Rattle.sharc_suggest_laws.proofs.Imports.{◌≡◌, take}
use Rattle.sharc_suggest_laws.proofs.applied.reasons_of.Given as goal

abbrev pub invariant-loop-position : goal.invariant-loop-position
invariant-loop-position l = l.list.items ≡ take l.position l.program.reasons
