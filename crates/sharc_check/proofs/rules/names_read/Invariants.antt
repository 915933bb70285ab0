use Rattle.sharc_check.proofs.Imports.{◌≡◌, ◌++◌, drop, flat_map, names_read, view_reading}
use Rattle.sharc_check.proofs.rules.names_read.Given as goal

abbrev pub invariant-loop-level : goal.invariant-loop-level
invariant-loop-level l =
    l.notes.items ++ flat_map (names_read l.typed (view_reading l.reading)) (drop l.level-index l.levels) ≡ l.fn.notes.items ++ flat_map (names_read l.typed (view_reading l.reading)) l.levels
