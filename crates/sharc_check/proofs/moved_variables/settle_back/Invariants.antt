use Rattle.sharc_check.proofs.Imports.{◌≡◌, ◌++◌, length, reverse, flat_map, settled}
use Rattle.sharc_check.proofs.moved_variables.settle_back.Given as goal

abbrev pub invariant-loop-note : goal.invariant-loop-note
invariant-loop-note l = flat_map (settled l.typed l.named) l.list.items ++ reverse l.errors.items ≡ flat_map (settled l.typed l.named) l.fn.list.items

abbrev pub decreases-loop-note : goal.decreases-loop-note
decreases-loop-note l = length l.list.items
