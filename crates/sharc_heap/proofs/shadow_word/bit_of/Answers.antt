use Rattle.sharc_heap.proofs.Imports.{◌≡◌, ◌+◌, ◌*◌, ◌^◌, ◌%◌, ap, ◌∙◌, sym, arith, mod-eq_of_lt, pow-lt, pow-add}
use Rattle.sharc_heap.proofs.shadow_word.bit_of.Goals as goal

pub returns : goal.returns
returns c =
    let doubled : 2 * 2 ^ c.args.thread ≡ 2 ^ (1 + c.args.thread) = sym (pow-add 2 1 c.args.thread) in
    ap (λ n. n % 2 ^ 64) doubled ∙ mod-eq_of_lt (pow-lt {i = 1 + c.args.thread} {j = 64} (omega arith))
