use Rattle.sharc_check.proofs.Imports.{◌≡◌, ◌++◌, drop, flat_map, entities_in, numbered, type_notes}
use Rattle.sharc_check.proofs.types.types.Given as goal

abbrev pub invariant-loop-numbered : goal.invariant-loop-numbered
invariant-loop-numbered l =
    l.notes.items ++ flat_map (type_notes l.program) (drop l.numbered-index (numbered (entities_in l.program.typed.program.items)))
    ≡ l.fn.notes.items ++ flat_map (type_notes l.program) (numbered (entities_in l.program.typed.program.items))
