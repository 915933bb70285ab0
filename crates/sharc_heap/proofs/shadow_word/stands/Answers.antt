use Rattle.sharc_heap.proofs.{Imports.{◌+◌, ap, ◌∙◌, sym, ◌==◌, arith, shr_and_one}, Sets.stands_below}
use Rattle.sharc_heap.proofs.shadow_word.stands.Goals as goal

pub returns : goal.returns
returns c = ap (λ b. b == 1) (shr_and_one c.args.word (1 + c.args.thread)) ∙ sym (stands_below c.args.word c.args.thread (omega arith))
