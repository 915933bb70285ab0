use Rattle.sharc_report.proofs.Imports.{◌≡◌, ◌++◌, map, drop, owners}
use Rattle.sharc_report.proofs.owners.owners.Given as goal

abbrev pub invariant-loop-n : goal.invariant-loop-n
invariant-loop-n l = map (λ o. o.now) l.owners.items ++ owners (drop l.n-index l.entities) ≡ owners l.entities
