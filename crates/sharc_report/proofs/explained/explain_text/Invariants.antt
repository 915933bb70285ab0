use Rattle.sharc_report.proofs.Imports.{◌≡◌, ◌++◌, drop, flat_map, entities_in, numbered, explanation}
use Rattle.sharc_report.proofs.explained.explain_text.Given as goal

abbrev pub invariant-loop-n : goal.invariant-loop-n
invariant-loop-n l = l.text.items ++ flat_map (explanation l.program) (drop l.n-index (numbered (entities_in l.program.typed.program.items))) ≡ flat_map (explanation l.program) (numbered (entities_in l.program.typed.program.items))
