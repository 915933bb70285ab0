use Rattle.sharc_sound_laws.proofs.Histories as histories
use Rattle.sharc_sound_laws.proofs.alike.histories_are_alike.Goals as goal

pub returns : goal.returns
returns c = histories.histories_are_alike
