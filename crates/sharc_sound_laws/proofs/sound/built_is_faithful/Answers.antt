use Rattle.sharc_sound_laws.proofs.sound.built_is_faithful.Goals as goal

pub returns : goal.returns
returns c = λ source built is. c.compiled_is_faithful.ensures source built.checked built.code is.front is.accepted is.compiled
