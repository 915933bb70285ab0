use Rattle.sharc_sound_laws.proofs.Next.{one_is_next}
use Rattle.sharc_sound_laws.proofs.sound.one_is_next.Goals as goal

pub returns : goal.returns
returns c = one_is_next c.ask_laws.ensures
