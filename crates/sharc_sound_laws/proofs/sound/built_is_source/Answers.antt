use Rattle.sharc_sound_laws.proofs.sound.built_is_source.Goals as goal

pub returns : goal.returns
returns c = λ source built is.
    let m = built.checked in
    let front = is.front.typed in
    record {
      typed = c.fronts_are_typed.ensures source m is.front is.accepted;
      constants = λ s k e. c.each_constant_is_held.ensures source front.tokens m.typed.program front.read front.reads e.owner e.stands s k e.inside;
      unsigned = c.numbers_have_no_sign.ensures source front.tokens m.typed.program front.read front.reads;
    }
