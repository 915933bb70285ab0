use Rattle.sharc_sound_laws.proofs.stand.made_is_followed.Goals as goal

pub returns : goal.returns
returns c = c.followed_law.ensures
