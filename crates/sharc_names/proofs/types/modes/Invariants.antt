use Rattle.sharc_names.proofs.Imports.{◌≡◌, drop, fold, noted, siblings_seen, modes_notes}
use Rattle.sharc_names.proofs.types.modes.Given as goal

abbrev pub invariant-loop-level : goal.invariant-loop-level
invariant-loop-level l = fold noted l.found (modes_notes l.scope (siblings_seen l.siblings) (drop l.level-index l.levels)) ≡ fold noted l.fn.found (modes_notes l.scope (siblings_seen l.siblings) l.levels)
