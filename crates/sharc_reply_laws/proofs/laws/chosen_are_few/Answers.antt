use Rattle.sharc_reply_laws.proofs.Few.{few}
use Rattle.sharc_reply_laws.proofs.laws.chosen_are_few.Goals as goal

pub returns : goal.returns
returns c = λ chooser code s limit turns chosen t. few c.run_laws.ensures c.enabled_laws.ensures chooser code s limit turns chosen t
