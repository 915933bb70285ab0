use Rattle.std.proofs.Common.{◌≡◌, subst, arith}
use Rattle.sharc_word.specs.declared.step.TheConstants.{THREADS}
use Rattle.sharc_code.specs.Whole.{place_after}
use Rattle.sharc_history.specs.Lasts.{AreLastsUpTo}
use Rattle.sharc_history.proofs.last.lasts.Goals as goal

pub returns : goal.returns
returns c = λ s turns stands.
    let over = c.loop-number-test.false in
    let most = c.loop-number.auto.number-end in
    let all : c.loop-number.number ≡ THREADS = omega (arith, over, most) in
    subst (λ n. AreLastsUpTo c.args.code.now s (place_after c.args.code.now s turns) n c.loop-number.lasts.items) all (c.loop-number.invariant s turns stands)
