use Rattle.sharc_mode.proofs.SameLemmas.{other_length}
use Rattle.sharc_mode.proofs.sharing.same_levels.Goals as goal

pub returns-then-a-b : goal.returns-then-a-b
returns-then-a-b c = other_length c.args.typed.now c.args.a.now c.args.b.now c.if-a-b.true
