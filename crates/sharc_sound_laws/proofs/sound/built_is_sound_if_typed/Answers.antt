use Rattle.sharc_sound_laws.proofs.Imports.{ℕ, ◌<◌, ◌^◌, arith, IsSmall}
use Rattle.sharc_sound_laws.proofs.sound.built_is_sound_if_typed.Goals as goal

narrow : (n : ℕ) → n < 2 ^ 32 → n < 2 ^ 64
narrow n h = omega arith

pub returns : goal.returns
returns c = λ source built is x ls wt s fits run checked.
    let m = built.checked in
    let front = is.front.typed in
    let unsigned = c.numbers_have_no_sign.ensures source front.tokens m.typed.program front.read front.reads in
    let few : IsSmall built.code s = record { counts = c.range_laws.ensures.counts built.code s is.numbers fits; functions = narrow _ is.numbers.functions } in
    let made = is.compiled in
    c.sound_if_typed.ensures m (c.fronts_are_typed.ensures source m is.front is.accepted) unsigned made.flat made.flattens made.fits built.code made.coded x ls wt s fits few run checked
