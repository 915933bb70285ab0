use Rattle.sharc_report.proofs.Imports.{◌≡◌, ◌++◌, map, replicate}
use Rattle.sharc_report.proofs.owners.add_owner.Given as goal

abbrev pub invariant-loop-position : goal.invariant-loop-position
invariant-loop-position l = map (λ o. o.now) l.owners.items ≡ map (λ o. o.now) l.fn.owners.items ++ replicate l._position l.n
