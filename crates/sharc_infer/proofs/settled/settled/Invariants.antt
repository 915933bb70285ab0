use Rattle.sharc_infer.proofs.Imports.{◌≡◌, ◌++◌, drop, map, entities_in, numbered, Numbered, settled_in}
use Rattle.sharc_infer.proofs.settled.settled.Given as goal

abbrev pub invariant-loop-numbered : goal.invariant-loop-numbered
invariant-loop-numbered l = l.list.items ++ settled_in (map (λ (n : Numbered). n.entity) (drop l.numbered-index (numbered (entities_in l.typed.program.items)))) ≡ settled_in (entities_in l.typed.program.items)
