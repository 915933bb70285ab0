use Rattle.sharc_invariant.proofs.Kept.{kept}
use Rattle.sharc_invariant.proofs.laws.keeps.Goals as goal

pub returns : goal.returns
returns c = kept c.thread_laws.ensures.outcomes c.shadow_laws.ensures c.new_laws.ensures
