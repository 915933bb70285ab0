use Rattle.std.proofs.Common.{◌≡◌, ◌++◌, length}
use Rattle.sharc_tree.specs.Texts.{tokens_text}
use Rattle.sharc_tree.proofs.print.add_tokens.Given as goal

abbrev pub invariant-loop-rest : goal.invariant-loop-rest
invariant-loop-rest l = l.text.items ++ tokens_text l.rest ≡ l.fn.text.items ++ tokens_text l.tokens

abbrev pub decreases-loop-rest : goal.decreases-loop-rest
decreases-loop-rest l = length l.rest
