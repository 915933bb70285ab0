use Rattle.std.proofs.Common.{◌≡◌, drop}
use Rattle.sharc_ctype.specs.Resolved.{functions_in}
use Rattle.sharc_judge.specs.Starting.{main_from, main_of}
use Rattle.sharc_judge.proofs.starts.main_of.Given as goal

abbrev pub invariant-loop-n : goal.invariant-loop-n
invariant-loop-n l = main_from l.n (drop l.n (functions_in l.typed.program.items)) ≡ main_of l.typed
