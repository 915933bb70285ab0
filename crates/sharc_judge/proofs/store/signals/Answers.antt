use Rattle.std.proofs.{Common.{◌≡◌, w64, to_z, of_z, sym, ◌∙◌}, lemmas.Int.to_z-of_z}
use Rattle.sharc_judge.proofs.Waiters.{signals_tells}
use Rattle.sharc_judge.proofs.store.signals.Goals as goal

pub returns : goal.returns
returns c =
    let tells = signals_tells c.args.before.now c.args.cell c.args.answer in
    let same : to_z w64 (of_z w64 c.args.answer) ≡ c.args.answer = to_z-of_z w64 c.args.answer c.ranges.answer in
    (λ t. tells.0 (sym same ∙ c.tells_waiter.ensures.0 t), λ s. c.tells_waiter.ensures.1 (same ∙ tells.1 s))
