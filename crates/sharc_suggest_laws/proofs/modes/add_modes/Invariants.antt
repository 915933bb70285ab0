use Rattle.sharc_suggest_laws.proofs.Imports.{◌≡◌, ◌++◌, take}
use Rattle.sharc_suggest_laws.proofs.modes.add_modes.Given as goal

abbrev pub invariant-loop-mode : goal.invariant-loop-mode
invariant-loop-mode l = l.list.items ≡ l.fn.list.items ++ take l.mode-index l.modes
