use Rattle.sharc_suggest_laws.proofs.Imports.{◌≡◌, ◌++◌, take, map, written_or}
use Rattle.sharc_suggest_laws.proofs.modes.add_levels.Given as goal

abbrev pub invariant-loop-level : goal.invariant-loop-level
invariant-loop-level l = l.list.items ≡ l.fn.list.items ++ map written_or (take l.level-index l.levels)
