use Rattle.sharc_check.proofs.Imports.{◌≡◌, ◌++◌, drop, functions_in, spawned_notes}
use Rattle.sharc_check.proofs.threads.spawned.Given as goal

abbrev pub invariant-loop-n : goal.invariant-loop-n
invariant-loop-n l =
    l.notes.items ++ spawned_notes l.program l.n (drop l.n (functions_in l.program.typed.program.items)) ≡ l.fn.notes.items ++ spawned_notes l.program 0 (functions_in l.program.typed.program.items)
