use Rattle.sharc_invariant.proofs.BitTurns.{runs_bits}
use Rattle.sharc_invariant.proofs.laws.runs_bits.Goals as goal

pub returns : goal.returns
returns c = runs_bits c.thread_laws.ensures.outcomes c.shadow_laws.ensures c.runs_stay.ensures.from_the_beginning
