use Rattle.sharc_infer.proofs.Imports.{◌≡◌, ◌++◌, drop, flat_map, entities_in, numbered, levels_down}
use Rattle.sharc_infer.proofs.links.all_levels.Given as goal

abbrev pub invariant-loop-numbered : goal.invariant-loop-numbered
invariant-loop-numbered l = l.links.items ++ flat_map levels_down (drop l.numbered-index (numbered (entities_in l.typed.program.items))) ≡ flat_map levels_down (numbered (entities_in l.typed.program.items))
