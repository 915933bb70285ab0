use Rattle.std.proofs.{Common.{◌≡◌, ◌<◌, None, length, get_or, ap, ◌∙◌, arith}, lemmas.List.Sums.sum_by_more}
use Rattle.sharc_rounds.specs.Pace.{made_at}
use Rattle.sharc_rounds.proofs.parts.Worker+BusSeat.events.Goals as goal
use Rattle.sharc_lemmas.proofs.Lists.{any_default}

pub loop-n-preserved : goal.loop-n-preserved
loop-n-preserved c =
    let items = c.args.self.now.hands.items in
    let low : c.loop-n.n < length items = omega (arith, c.loop-n-test.true) in
    let here : made_at c.index.result.now ≡ made_at (get_or items c.loop-n.n None) = ap made_at (c.index.ensures ∙ any_default items c.loop-n.n c.index.result.now None low) in
    let more = sum_by_more made_at items c.loop-n.n None low in
    omega (arith, c.loop-n.invariant, more, here, c.made_at.ensures, c.saturating_add-all.ensures)
