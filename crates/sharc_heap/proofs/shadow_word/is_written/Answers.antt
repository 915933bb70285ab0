use Rattle.sharc_heap.proofs.{Imports.{◌≡◌, ap, ◌∙◌, sym, ◌==◌, ◌*◌, arith, and_pow, bit_at}, Sets.written_is}
use Rattle.sharc_heap.proofs.shadow_word.is_written.Goals as goal

pub returns : goal.returns
returns c =
    let once : bit_at c.args.word 0 * 1 ≡ bit_at c.args.word 0 = omega arith in
    ap (λ b. b == 1) (and_pow c.args.word 0 ∙ once) ∙ sym (written_is c.args.word)
