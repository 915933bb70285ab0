use Rattle.sharc_sound_laws.proofs.Beginning.{begins_with}
use Rattle.sharc_sound_laws.proofs.sound.made_code_begins.Goals as goal

pub returns : goal.returns
returns c = begins_with c.meets_globals.ensures
