use Rattle.sharc_mode.proofs.Imports.{◌≡◌, take}
use Rattle.sharc_mode.proofs.moded.copied.Given as goal

abbrev pub invariant-loop-mode : goal.invariant-loop-mode
invariant-loop-mode l = l.list.items ≡ take l.mode-index l.modes
