use Rattle.sharc_mode.proofs.Imports.{◌≡◌, drop, view_arguments, argument_use}
use Rattle.sharc_mode.proofs.row.argument_use.Given as goal

abbrev pub invariant-loop-i : goal.invariant-loop-i
invariant-loop-i l = argument_use l.typed (drop l.i l.parameters) (view_arguments (drop l.i l.arguments)) l.wanted ≡ argument_use l.typed l.parameters (view_arguments l.arguments) l.wanted
