use Rattle.sharc_check.proofs.Imports.{◌≡◌, ◌++◌, drop, flat_map, names_in_level}
use Rattle.sharc_check.proofs.types.names.Given as goal

abbrev pub invariant-loop-level : goal.invariant-loop-level
invariant-loop-level l = l.notes.items ++ flat_map (names_in_level l.typed) (drop l.level-index l.levels) ≡ l.fn.notes.items ++ flat_map (names_in_level l.typed) l.levels
