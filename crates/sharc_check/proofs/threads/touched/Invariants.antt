use Rattle.sharc_check.proofs.Imports.{◌≡◌, ◌++◌, drop, globals_in, touched_notes, touched_by}
use Rattle.sharc_check.proofs.threads.touched.Given as goal

abbrev pub invariant-loop-n : goal.invariant-loop-n
invariant-loop-n l =
    l.notes.items ++ touched_notes (touched_by l.reached) l.n (drop l.n (globals_in l.program.typed.program.items))
    ≡ l.fn.notes.items ++ touched_notes (touched_by l.reached) 0 (globals_in l.program.typed.program.items)
