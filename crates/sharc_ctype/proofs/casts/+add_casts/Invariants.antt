use Rattle.sharc_ctype.proofs.Imports.{◌≡◌, ◌++◌, drop, in_arguments, view_arguments, casts}
use Rattle.sharc_ctype.proofs.casts.+add_casts.Given as goal

abbrev pub invariant-add_arguments-loop-argument : goal.invariant-add_arguments-loop-argument
invariant-add_arguments-loop-argument l = l.entities ++ casts (in_arguments (view_arguments (drop l.argument-index l.arguments))) ≡ l.fn.entities ++ casts (in_arguments (view_arguments l.arguments))
