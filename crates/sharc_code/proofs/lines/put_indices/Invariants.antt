use Rattle.sharc_code.proofs.Imports.{◌≡◌, ◌++◌, take, flat_map, operand_text, Index}
use Rattle.sharc_code.proofs.lines.put_indices.Given as goal

abbrev pub invariant-loop-index : goal.invariant-loop-index
invariant-loop-index l =
    l.text.items ≡ l.fn.text.items ++ (l.word ++ flat_map (λ n. operand_text (Index n)) (take l.index-index l.indices))
