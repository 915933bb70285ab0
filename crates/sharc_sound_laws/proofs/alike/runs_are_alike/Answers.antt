use Rattle.sharc_sound_laws.proofs.Ends as ends
use Rattle.sharc_sound_laws.proofs.alike.runs_are_alike.Goals as goal

pub returns : goal.returns
returns c = ends.runs_are_alike
