use Rattle.sharc_sound_laws.proofs.built.built_is_sound.Goals as goal

pub returns : goal.returns
returns c = λ source built is s fits run checked. let w = c.built_is_typed.ensures source built is in c.built_is_sound_if_typed.ensures source built is _ _ w.1 s fits run checked
