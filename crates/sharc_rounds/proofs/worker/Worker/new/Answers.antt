use Rattle.std.proofs.Common.{◌≡◌, ◌+◌, ◌++◌, ◌∷◌, [], List, Option, None, get_or, ap, sym, ◌∙◌, subst, ℕ, arith}
use Rattle.sharc_rounds.proofs.Dealing.{none_more}
use Rattle.sharc_rounds.proofs.worker.Worker.new.Goals as goal

pub loop-preserved : goal.loop-preserved
loop-preserved g c = record {
  count = omega (arith, c.in_ok-push.ensures.len, c.loop.invariant.count);
  none = λ n. ap (λ xs. get_or xs n None) c.in_ok-push.ensures.items ∙ none_more c.loop.hands.items c.loop.invariant.none n;
}
