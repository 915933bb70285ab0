use Rattle.sharc_suggest_laws.proofs.Imports.{◌≡◌, take, map, moved}
use Rattle.sharc_suggest_laws.proofs.modes.all_moved.Given as goal

abbrev pub invariant-loop-reason : goal.invariant-loop-reason
invariant-loop-reason l = l.list.items ≡ map (moved l.first l.count) (take l.reason-index l.reasons)
