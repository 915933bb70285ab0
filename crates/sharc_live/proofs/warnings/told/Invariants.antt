use Rattle.sharc_live.proofs.Imports.{◌≡◌, ◌++◌, drop, map, warning_at}
use Rattle.sharc_live.proofs.warnings.told.Given as goal

abbrev pub invariant-loop-w : goal.invariant-loop-w
invariant-loop-w l = l.list.items ++ map (warning_at l.typed) (drop l.w-index l.found) ≡ map (warning_at l.typed) l.found
