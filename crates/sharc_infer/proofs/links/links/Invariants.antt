use Rattle.sharc_infer.proofs.Imports.{◌≡◌, ◌++◌, drop, flat_map, item_links, links_of}
use Rattle.sharc_infer.proofs.links.links.Given as goal

abbrev pub invariant-loop-item : goal.invariant-loop-item
invariant-loop-item l = l.links.items ++ flat_map (item_links l.typed) (drop l.item-index l.typed.program.items) ≡ links_of l.typed
