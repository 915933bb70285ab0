use Rattle.sharc_check.proofs.Imports.{◌≡◌, drop, list_any, is_private_level}
use Rattle.sharc_check.proofs.types.any_private.Given as goal

abbrev pub invariant-loop-level : goal.invariant-loop-level
invariant-loop-level l = list_any is_private_level (drop l.level-index l.levels) ≡ list_any is_private_level l.levels
