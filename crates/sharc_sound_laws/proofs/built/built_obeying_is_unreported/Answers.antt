use Rattle.sharc_sound_laws.proofs.built.built_obeying_is_unreported.Goals as goal

pub returns : goal.returns
returns c = λ source built is always s fits run checked.
    let w = c.built_is_typed.ensures source built is in
    c.built_obeying_is_unreported_if_typed.ensures source built is _ _ w.1 always s fits run checked
