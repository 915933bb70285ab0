use Rattle.sharc_bus.proofs.Imports.{◌≡◌, length, arith, ext_get_or, slots_items, slots_counts}
use Rattle.sharc_bus.proofs.parts.read_words.Goals as goal

pub returns : goal.returns
returns g c =
    let counts = slots_counts c.args.closed.now.words in
    let same : length c.loop-i.words ≡ length (slots_items c.args.closed.now.words) = omega (arith, counts.0, c.requires.len) in
    ext_get_or 0 c.loop-i.words (slots_items c.args.closed.now.words) same (λ k lt. c.loop-i.invariant k (omega arith))
