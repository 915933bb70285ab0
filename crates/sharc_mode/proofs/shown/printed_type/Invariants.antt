use Rattle.sharc_mode.proofs.Imports.{◌≡◌, ◌++◌, map, take, drop, Some, printed_top}
use Rattle.sharc_mode.proofs.shown.printed_type.Given as goal

abbrev pub invariant-loop-i : goal.invariant-loop-i
invariant-loop-i l = l.levels.items ≡ printed_top l.numbered.entity.role l.written.levels ++ map (λ mode. Some mode) (take l.i (drop l.numbered.first l.program.modes))
